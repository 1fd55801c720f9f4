-- Fields that are parted by a blank are told apart, and each spelling is of one value.
use Rattle.std.proofs.Common.{◌≡◌, ◌≢◌, ◌∙◌, ℕ, zero, suc, ◌<◌, ◌^◌, ◌/◌, ◌%◌, List, [], ◌∷◌, ◌++◌, length, slice_index, decimal, refl, sym, ap, subst, arith}
use Rattle.std.proofs.lemmas.Fmt.{decimal_is_IsNumeral}
use Rattle.std.specs.Char.{digit_value}
use Rattle.std.specs.Str.Parse.{AllDigits}
use Rattle.hex.specs.Hex.{IsBytes, decode_of, encode_lower, encode_with, lower_digits}
use Rattle.hex.proofs.HexLemmas.{length-encode_with, decode_of-encode_lower}
use Rattle.text_fields.specs.Fields.{hex_text, HasNoBlank}
use Rattle.text_fields.proofs.HexFieldLemmas.{digit_no_blank}

first_free : (a : ℕ) (rest : List ℕ) → HasNoBlank (a ∷ rest) → a ≢ 32
first_free a rest free = free 0 (omega arith)

rest_free : (a : ℕ) (rest : List ℕ) → HasNoBlank (a ∷ rest) → HasNoBlank rest
rest_free a rest free = λ k small. free (suc k) (omega arith)

-- the text has one word up to its first blank
pub words_apart : (a b x y : List ℕ) → HasNoBlank a → HasNoBlank b → a ++ 32 ∷ x ≡ b ++ 32 ∷ y → (a ≡ b) × (x ≡ y)
words_apart [] [] x y p q e = (refl, cc)
words_apart [] (b ∷ bs) x y p q e = let same : 32 ≡ b = cc in absurd (first_free b bs q (sym same))
words_apart (a ∷ more) [] x y p q e = let same : a ≡ 32 = cc in absurd (first_free a more p same)
words_apart (a ∷ more) (b ∷ bs) x y p q e =
    let same : a ≡ b = cc in
    let rest : more ++ 32 ∷ x ≡ bs ++ 32 ∷ y = cc in
    let so = words_apart more bs x y (rest_free a more p) (rest_free b bs q) rest in
    (ap (λ l. a ∷ l) so.0 ∙ ap (λ c. c ∷ bs) same, so.1)

-- a word has no blank behind its end
pub word_whole : (a b y : List ℕ) → HasNoBlank a → a ≡ b ++ 32 ∷ y → ⊥
word_whole [] [] y p e = cc
word_whole [] (b ∷ bs) y p e = cc
word_whole (a ∷ more) [] y p e = let same : a ≡ 32 = cc in first_free a more p same
word_whole (a ∷ more) (b ∷ bs) y p e = let rest : more ≡ bs ++ 32 ∷ y = cc in word_whole more bs y (rest_free a more p) rest

-- bytes of one spelling in hexadecimal are the same
pub hex_text_injective : (a b : List ℕ) → IsBytes a → IsBytes b → hex_text a ≡ hex_text b → a ≡ b
hex_text_injective [] [] p q e = refl
hex_text_injective [] (b ∷ bs) p q e = absurd (omega (arith, ap length e, length-encode_with lower_digits (b ∷ bs)))
hex_text_injective (a ∷ more) [] p q e = absurd (omega (arith, ap length e, length-encode_with lower_digits (a ∷ more)))
hex_text_injective (a ∷ more) (b ∷ bs) p q e =
    let whole = sym (decode_of-encode_lower (a ∷ more) p) ∙ ap decode_of e ∙ decode_of-encode_lower (b ∷ bs) q in
    cc

more_blank : (d : ℕ) (ds : List ℕ) → d ≢ 32 → HasNoBlank ds → HasNoBlank (d ∷ ds)
more_blank d ds first rest zero small is = first is
more_blank d ds first rest (suc k) small is = rest k (omega arith) is

-- a decimal number has no blank
digits_blank : (ds : List ℕ) → AllDigits 10 ds → HasNoBlank ds
digits_blank [] all = λ k small is. omega arith
digits_blank (d ∷ ds) all = more_blank d ds (λ is. let small = subst (λ c. digit_value c < 10) is all.0 in omega arith) (digits_blank ds all.1)

pub decimal_blank : (n : ℕ) → n < 2 ^ 64 → HasNoBlank (decimal n)
decimal_blank n small = digits_blank (decimal n) (decimal_is_IsNumeral n small).0.1

-- neither has the text of bytes in hexadecimal
encoded_blank : (bytes : List ℕ) → IsBytes bytes → HasNoBlank (encode_lower bytes)
unfolding encode_with
encoded_blank [] fit = λ k small is. omega arith
encoded_blank (b ∷ bs) fit =
    let fits : b < 256 = fit 0 in
    let rest = encoded_blank bs (λ i. fit (suc i)) in
    more_blank (slice_index lower_digits (b / 16)) (slice_index lower_digits (b % 16) ∷ encode_lower bs) (digit_no_blank (b / 16) (omega arith))
    (more_blank (slice_index lower_digits (b % 16)) (encode_lower bs) (digit_no_blank (b % 16) (omega arith)) rest)

pub hex_text_blank : (bytes : List ℕ) → IsBytes bytes → HasNoBlank (hex_text bytes)
hex_text_blank [] fit = more_blank 45 [] (λ is. omega arith) (λ k small is. omega arith)
hex_text_blank (b ∷ bs) fit = encoded_blank (b ∷ bs) fit
