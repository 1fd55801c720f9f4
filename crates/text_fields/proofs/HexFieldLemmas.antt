-- Hexadecimal text of lower-case digits: reading it and printing it are inverse to each other.
use Rattle.std.proofs.Common.{◌≡◌, ◌≢◌, ◌∙◌, ℕ, zero, suc, ◌+◌, ◌*◌, ◌/◌, ◌%◌, ◌<◌, ◌≤◌, ◌==◌, ◌&&◌, Bool, true, false, List, [], ◌∷◌, length, slice_index, nat_lt, Option, Some, None, Result, Ok, Err, cond, codes, refl, sym, ap, subst, arith, inl, inr}
use Rattle.std.specs.Prelude.{if◌then◌else◌}
use Rattle.std.proofs.lemmas.Bool.Decides.{nat_tests}
use Rattle.std.proofs.lemmas.Bool.{and_parts, cases_lt, eqb-true}
use Rattle.hex.specs.declared.error.FromHexError.{FromHexError}
use Rattle.hex.specs.declared.error.FromHexError.TheVariants.{OddLength}
use Rattle.hex.specs.Hex.{IsBytes, decode_of, decode_pairs, digit_or_error, hex_digit_value, encode_lower, encode_with, lower_digits, ◌>>=◌}
use Rattle.hex.proofs.HexLemmas.{length-encode_with, decode_of-encode_lower, decode_pairs-ok}
use Rattle.text_fields.specs.Fields.{hex_text, HasNoCapital}

-- ---- the digits

-- the lower-case digit of this value
abbrev digit_of : ℕ → ℕ
digit_of v = if nat_lt v 10 then v + 48 else v + 87

abbrev is_digit : ℕ → Bool
is_digit v = slice_index lower_digits v == digit_of v

abbrev all_digits : ℕ → Bool
all_digits zero = true
all_digits (suc n) = is_digit n && all_digits n

digit_below : (n v : ℕ) → all_digits n ≡ true → v < n → is_digit v ≡ true
digit_below zero v all small = absurd (omega arith)
digit_below (suc n) v all small =
    let parts = and_parts (is_digit n) (all_digits n) all in
    elim (cases_lt v n) [
      | inl below ↦ digit_below n v parts.1 below
      | inr top ↦
          let same : v ≡ n = omega arith in
          rw same parts.0
    ]

digit_is : (v : ℕ) → v < 16 → slice_index lower_digits v ≡ digit_of v
digit_is v small = eqb-true (slice_index lower_digits v) (digit_of v) (digit_below 16 v refl small)

-- a digit that isn't a capital one is the digit of its value
of_value : (c v : ℕ) → hex_digit_value c ≡ Some v → (65 ≤ c → c ≤ 90 → ⊥) → (v < 16) × (digit_of v ≡ c)
of_value c v is small = (grind (arith, nat_tests), grind (arith, nat_tests))

digit_again : (c v : ℕ) → hex_digit_value c ≡ Some v → (65 ≤ c → c ≤ 90 → ⊥) → slice_index lower_digits v ≡ c
digit_again c v is small = let so = of_value c v is small in digit_is v so.0 ∙ so.1

-- ---- reading

-- what two digits and a rest decode to
record Decoded (a b i : ℕ) (rest bytes : List ℕ) : Type 0 where
  high : ℕ
  low : ℕ
  more : List ℕ
  reads_high : hex_digit_value a ≡ Some high
  reads_low : hex_digit_value b ≡ Some low
  reads_more : decode_pairs (i + 2) rest ≡ Ok more
  whole : (high * 16 + low) ∷ more ≡ bytes

decoded : (a b i : ℕ) (rest bytes : List ℕ) → decode_pairs i (a ∷ b ∷ rest) ≡ Ok bytes → Decoded a b i rest bytes
unfolding decode_pairs
decoded a b i rest bytes is = by_parts (hex_digit_value a) (hex_digit_value b) (decode_pairs (i + 2) rest) refl refl refl is
  where
    by_parts : (o p : Option ℕ) (r : Result (List ℕ) FromHexError) → hex_digit_value a ≡ o → hex_digit_value b ≡ p → decode_pairs (i + 2) rest ≡ r
        → ((digit_or_error a i o >>= (λ h. digit_or_error b (i + 1) p >>= (λ l. Ok (h * 16 + l)))) >>= (λ byte. r >>= (λ more. Ok (byte ∷ more)))) ≡ Ok bytes → Decoded a b i rest bytes
    by_parts None p r x y z e = cc
    by_parts (Some h) None r x y z e = cc
    by_parts (Some h) (Some l) (Err f) x y z e = cc
    by_parts (Some h) (Some l) (Ok more) x y z e = record { high = h; low = l; more = more; reads_high = x; reads_low = y; reads_more = z; whole = cc }

first_free : (a : ℕ) (rest : List ℕ) → HasNoCapital (a ∷ rest) → 65 ≤ a → a ≤ 90 → ⊥
first_free a rest free = free 0 (omega arith)

rest_free : (a : ℕ) (rest : List ℕ) → HasNoCapital (a ∷ rest) → HasNoCapital rest
rest_free a rest free = λ k small. free (suc k) (omega arith)

-- text without capitals that decodes is what its bytes are printed as
encoded_again : (i : ℕ) (text bytes : List ℕ) → decode_pairs i text ≡ Ok bytes → HasNoCapital text → text ≡ encode_lower bytes
unfolding decode_pairs encode_with
encoded_again i [] bytes is free = let e : [] ≡ bytes = cc in rw (← e) refl
encoded_again i (a ∷ []) bytes is free = cc
encoded_again i (a ∷ b ∷ rest) bytes is free =
    let so = decoded a b i rest bytes is in
    let low_free = rest_free a (b ∷ rest) free in
    let high = of_value a so.high so.reads_high (first_free a (b ∷ rest) free) in
    let low = of_value b so.low so.reads_low (first_free b rest low_free) in
    let one : slice_index lower_digits ((so.high * 16 + so.low) / 16) ≡ a =
    (let e : (so.high * 16 + so.low) / 16 ≡ so.high = omega arith in rw e (digit_again a so.high so.reads_high (first_free a (b ∷ rest) free))) in
    let two : slice_index lower_digits ((so.high * 16 + so.low) % 16) ≡ b =
    (let e : (so.high * 16 + so.low) % 16 ≡ so.low = omega arith in rw e (digit_again b so.low so.reads_low (first_free b rest low_free))) in
    let more = encoded_again (i + 2) rest so.more so.reads_more (rest_free b rest low_free) in
    rw (← so.whole) (rw (one, two) (ap (λ l. a ∷ b ∷ l) more))

decode_even : (text bytes : List ℕ) → decode_of text ≡ Ok bytes → decode_pairs 0 text ≡ Ok bytes
decode_even text bytes is = by_test (length text % 2 == 1) is
  where
    by_test : (t : Bool) → cond t (Err (OddLength)) (decode_pairs 0 text) ≡ Ok bytes → decode_pairs 0 text ≡ Ok bytes
    by_test true e = cc
    by_test false e = e

-- what was decoded from text without capitals
pub read_back : (text bytes : List ℕ) → decode_of text ≡ Ok bytes → HasNoCapital text → 1 ≤ length text / 2 → (text ≡ hex_text bytes) × IsBytes bytes × (length bytes ≡ length text / 2)
read_back text bytes is free some =
    let pairs = decode_even text bytes is in
    let size = decode_pairs-ok 0 text bytes pairs in
    (nonempty bytes (encoded_again 0 text bytes pairs free) (omega (arith, size.1)), size.2, omega (arith, size.1))
  where
    nonempty : (bs : List ℕ) → text ≡ encode_lower bs → 1 ≤ length bs → text ≡ hex_text bs
    nonempty [] e one = absurd (omega arith)
    nonempty (b ∷ bs) e one = e

-- ---- printing

-- what is spelled in hexadecimal, and is no dash
pub spelled : (word bytes : List ℕ) → (word ≡ codes "-" → ⊥) → word ≡ hex_text bytes → (word ≡ encode_lower bytes) × (length word ≡ 2 * length bytes) × (1 ≤ length bytes)
spelled word [] dash is = absurd (dash is)
spelled word (b ∷ bs) dash is = (is, omega (arith, ap length is, length-encode_with lower_digits (b ∷ bs)), omega arith)

-- a digit of a byte is no capital letter
no_capital : (v : ℕ) → v < 16 → 65 ≤ slice_index lower_digits v → slice_index lower_digits v ≤ 90 → ⊥
no_capital v small low high = let e = digit_is v small in grind (arith, nat_tests)

pub digit_no_blank : (v : ℕ) → v < 16 → slice_index lower_digits v ≢ 32
digit_no_blank v small is = let e = digit_is v small in grind (arith, nat_tests)

two_digits : (h l : ℕ) (rest : List ℕ) → h < 16 → l < 16 → HasNoCapital rest → HasNoCapital (slice_index lower_digits h ∷ slice_index lower_digits l ∷ rest)
two_digits h l rest p q free zero small low high = no_capital h p low high
two_digits h l rest p q free (suc zero) small low high = no_capital l q low high
two_digits h l rest p q free (suc (suc k)) small low high = free k (omega arith) low high

pub no_capitals : (bytes : List ℕ) → IsBytes bytes → HasNoCapital (encode_lower bytes)
unfolding encode_with
no_capitals [] fit = λ k small low high. omega arith
no_capitals (b ∷ bs) fit =
    let fits : b < 256 = fit 0 in
    two_digits (b / 16) (b % 16) (encode_lower bs) (omega arith) (omega arith) (no_capitals bs (λ i. fit (suc i)))

-- what is spelled decodes
pub decodes : (word bytes : List ℕ) → IsBytes bytes → word ≡ encode_lower bytes → decode_of word ≡ Ok bytes
decodes word bytes fit is = ap decode_of is ∙ decode_of-encode_lower bytes fit

-- ---- what a word that spells nothing doesn't spell

-- a dash spells no bytes but the empty list
pub dash_alone : (word bytes : List ℕ) → word ≡ codes "-" → 1 ≤ length bytes → word ≡ hex_text bytes → ⊥
dash_alone word [] dash some is = omega arith
dash_alone word (b ∷ bs) dash some is = omega (arith, ap length (sym dash ∙ is), length-encode_with lower_digits (b ∷ bs))

-- a word that is no dash has two digits for each byte
pub wrong_count : (word bytes : List ℕ) → (word ≡ codes "-" → ⊥) → word ≡ hex_text bytes → (length word / 2 ≡ length bytes) × (1 ≤ length bytes)
wrong_count word bytes dash is = let so = spelled word bytes dash is in (omega (arith, so.1), so.2)

pub no_capital_spelled : (word bytes : List ℕ) → (word ≡ codes "-" → ⊥) → IsBytes bytes → word ≡ hex_text bytes → HasNoCapital word
no_capital_spelled word bytes dash fit is = let so = spelled word bytes dash is in subst HasNoCapital (sym so.0) (no_capitals bytes fit)

pub decodes_to : (word bytes : List ℕ) → (word ≡ codes "-" → ⊥) → IsBytes bytes → word ≡ hex_text bytes → decode_of word ≡ Ok bytes
decodes_to word bytes dash fit is = decodes word bytes fit (spelled word bytes dash is).0
