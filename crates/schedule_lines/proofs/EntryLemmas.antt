-- Entries of a vector, and words that are their texts.
use Rattle.std.proofs.Common.{◌≡◌, ◌≢◌, ◌∙◌, ℕ, zero, suc, ◌<◌, ◌≤◌, ◌^◌, List, [], ◌∷◌, ◌++◌, decimal, refl, sym, ap, subst, arith}
use Rattle.std.proofs.lemmas.Fmt.{decimal_is_IsNumeral, decimal_injective}
use Rattle.std.specs.Char.{digit_value}
use Rattle.std.specs.Str.Parse.{AllDigits}
use Rattle.tm_data.specs.declared.vector.VectorEntry.{VectorEntry}
use Rattle.tm_data.specs.Vectors.{AscendsAbove, entry}
use Rattle.schedule_lines.specs.Lines.{AreEntries, entry_text, entry_words}
use Rattle.schedule_lines.specs.Inside.{HasNoColon, IsEntry, last_writer}

-- ---- colons

first_free : (b : ℕ) (bs : List ℕ) → HasNoColon (b ∷ bs) → b ≢ 58
first_free b bs free = free 0 (omega arith)

rest_free : (b : ℕ) (bs : List ℕ) → HasNoColon (b ∷ bs) → HasNoColon bs
rest_free b bs free = λ k small. free (suc k) (omega arith)

more_free : (b : ℕ) (bs : List ℕ) → b ≢ 58 → HasNoColon bs → HasNoColon (b ∷ bs)
more_free b bs first rest zero small is = first is
more_free b bs first rest (suc k) small is = rest k (omega arith) is

-- what stands in front of the first colon, and behind it
colon_apart : (a b x y : List ℕ) → HasNoColon a → HasNoColon b → a ++ 58 ∷ x ≡ b ++ 58 ∷ y → (a ≡ b) × (x ≡ y)
colon_apart [] [] x y p q e = (refl, cc)
colon_apart [] (b ∷ bs) x y p q e = let same : 58 ≡ b = cc in absurd (first_free b bs q (sym same))
colon_apart (a ∷ more) [] x y p q e = let same : a ≡ 58 = cc in absurd (first_free a more p same)
colon_apart (a ∷ more) (b ∷ bs) x y p q e =
    let same : a ≡ b = cc in
    let rest : more ++ 58 ∷ x ≡ bs ++ 58 ∷ y = cc in
    let so = colon_apart more bs x y (rest_free a more p) (rest_free b bs q) rest in
    (ap (λ l. a ∷ l) so.0 ∙ ap (λ c. c ∷ bs) same, so.1)

no_colon : (a b y : List ℕ) → HasNoColon a → a ≡ b ++ 58 ∷ y → ⊥
no_colon [] [] y p e = cc
no_colon [] (b ∷ bs) y p e = cc
no_colon (a ∷ more) [] y p e = let same : a ≡ 58 = cc in first_free a more p same
no_colon (a ∷ more) (b ∷ bs) y p e = let rest : more ≡ bs ++ 58 ∷ y = cc in no_colon more bs y (rest_free a more p) rest

digits_free : (ds : List ℕ) → AllDigits 10 ds → HasNoColon ds
digits_free [] all = λ k small is. omega arith
digits_free (d ∷ ds) all = more_free d ds (λ is. let small = subst (λ c. digit_value c < 10) is all.0 in omega arith) (digits_free ds all.1)

decimal_free : (n : ℕ) → n < 2 ^ 64 → HasNoColon (decimal n)
decimal_free n small = digits_free (decimal n) (decimal_is_IsNumeral n small).0.1

-- ---- one entry

pub no_entry : (word : List ℕ) → HasNoColon word → (above : ℕ) (e : VectorEntry) → IsEntry above e → word ≡ entry_text e → ⊥
no_entry word free above e fit is = no_colon word (decimal e.writer.0) (decimal e.stamp.0) free is

pub entry_parts : (word a b : List ℕ) → word ≡ a ++ 58 ∷ b → HasNoColon a → (above : ℕ) (e : VectorEntry) → IsEntry above e → word ≡ entry_text e
    → (a ≡ decimal e.writer.0) × (b ≡ decimal e.stamp.0)
entry_parts word a b parted free above e fit is =
    colon_apart a (decimal e.writer.0) b (decimal e.stamp.0) free (decimal_free e.writer.0 (omega arith)) (sym parted ∙ is)

-- a writer that is not above the others is no other one
pub same_writer : (word a b : List ℕ) → word ≡ a ++ 58 ∷ b → HasNoColon a → (above n : ℕ) → a ≡ decimal n → n ≤ 4294967295 → n ≤ above
    → (e : VectorEntry) → IsEntry above e → word ≡ entry_text e → ⊥
same_writer word a b parted free above n known small low e fit is =
    let parts = entry_parts word a b parted free above e fit is in
    let same = decimal_injective n e.writer.0 (omega arith) (omega arith) (sym known ∙ parts.0) in
    omega arith

-- ---- entries read so far

pub words_push : (es : List VectorEntry) (e : VectorEntry) (rest : List (List ℕ)) → entry_words (es ++ e ∷ []) ++ rest ≡ entry_words es ++ entry_text e ∷ rest
words_push [] e rest = refl
words_push (d ∷ es) e rest = ap (λ (l : List (List ℕ)). entry_text d ∷ l) (words_push es e rest)

pub last_push : (above : ℕ) (es : List VectorEntry) (e : VectorEntry) → last_writer above (es ++ e ∷ []) ≡ e.writer.0
last_push above [] e = refl
last_push above (d ∷ es) e = last_push d.writer.0 es e

pub ascends_push : (above : ℕ) (es : List VectorEntry) (e : VectorEntry) → AscendsAbove above es → last_writer above es < e.writer.0 → 1 ≤ e.stamp.0
    → AscendsAbove above (es ++ e ∷ [])
ascends_push above [] e up more some = (more, some, tt)
ascends_push above (d ∷ es) e up more some = (up.0, up.1, ascends_push d.writer.0 es e up.2 more some)

pub entries_push : (es : List VectorEntry) (e : VectorEntry) (above : ℕ) → AreEntries es → IsEntry above e → AreEntries (es ++ e ∷ [])
entries_push [] e above all fit = (fit.1, fit.2, tt)
entries_push (d ∷ es) e above all fit = (all.0, all.1, entries_push es e above all.2 fit)

pub words_end : (es : List VectorEntry) → entry_words es ++ [] ≡ entry_words es
words_end [] = refl
words_end (d ∷ es) = ap (λ (l : List (List ℕ)). entry_text d ∷ l) (words_end es)

-- the same text is of the same writer
writer_of_text : (d e : VectorEntry) → d.writer.0 ≤ 4294967295 → e.writer.0 ≤ 4294967295 → entry_text d ≡ entry_text e → d.writer.0 ≡ e.writer.0
writer_of_text d e small_d small_e is =
    let parts = colon_apart (decimal d.writer.0) (decimal e.writer.0) (decimal d.stamp.0) (decimal e.stamp.0) (decimal_free d.writer.0 (omega arith)) (decimal_free e.writer.0 (omega arith)) is in
    decimal_injective d.writer.0 e.writer.0 (omega arith) (omega arith) parts.0

-- where the next word is no entry above the entries so far, the words are no vector
pub no_bound : (above : ℕ) (es v : List VectorEntry) (word : List ℕ) (rest : List (List ℕ)) → AreEntries es → AscendsAbove above v → AreEntries v
    → entry_words es ++ word ∷ rest ≡ entry_words v → ((e : VectorEntry) → IsEntry (last_writer above es) e → word ≡ entry_text e → ⊥) → ⊥
no_bound above [] [] word rest all up fit is none = cc
no_bound above [] (e ∷ v) word rest all up fit is none = let same : word ≡ entry_text e = cc in none e (up.0, fit.0, fit.1) same
no_bound above (d ∷ es) [] word rest all up fit is none = cc
no_bound above (d ∷ es) (e ∷ v) word rest all up fit is none =
    let same : entry_text d ≡ entry_text e = cc in
    let more : entry_words es ++ word ∷ rest ≡ entry_words v = cc in
    let writer = writer_of_text d e all.0.1 fit.0.1 same in
    no_bound d.writer.0 es v word rest all.2 (subst (λ w. AscendsAbove w v) (sym writer) up.2) fit.2 more none

-- one entry more
pub goes_on : (ws rest more : List (List ℕ)) (es new : List VectorEntry) (above : ℕ) (word : List ℕ) (e : VectorEntry) → ws ≡ entry_words es ++ rest → above ≡ last_writer 0 es
    → AscendsAbove 0 es → AreEntries es → rest ≡ word ∷ more → word ≡ entry_text e → IsEntry above e → new ≡ es ++ e ∷ []
    → (ws ≡ entry_words new ++ more) × (e.writer.0 ≡ last_writer 0 new) × AscendsAbove 0 new × AreEntries new
goes_on ws rest more es new above word e read last up all next spelled fit pushed =
    let push : (ws ≡ entry_words (es ++ e ∷ []) ++ more) × (e.writer.0 ≡ last_writer 0 (es ++ e ∷ [])) × AscendsAbove 0 (es ++ e ∷ []) × AreEntries (es ++ e ∷ []) = (
      read ∙ ap (λ (l : List (List ℕ)). entry_words es ++ l) (next ∙ ap (λ (w : List ℕ). w ∷ more) spelled) ∙ sym (words_push es e more),
      sym (last_push 0 es e),
      ascends_push 0 es e up (omega (arith, fit.0, last)) fit.2.0,
      entries_push es e above all fit,
    ) in
    subst (λ (new : List VectorEntry). (ws ≡ entry_words new ++ more) × (e.writer.0 ≡ last_writer 0 new) × AscendsAbove 0 new × AreEntries new) (sym pushed) push

-- the same text is of the same entry
pub same_entry : (d e : VectorEntry) → d.writer.0 ≤ 4294967295 → e.writer.0 ≤ 4294967295 → d.stamp.0 ≤ 9223372036854775807 → e.stamp.0 ≤ 9223372036854775807
    → entry_text d ≡ entry_text e → d ≡ e
same_entry d e small_d small_e low_d low_e is =
    let parts = colon_apart (decimal d.writer.0) (decimal e.writer.0) (decimal d.stamp.0) (decimal e.stamp.0) (decimal_free d.writer.0 (omega arith)) (decimal_free e.writer.0 (omega arith)) is in
    let writer : d.writer.0 ≡ e.writer.0 = decimal_injective d.writer.0 e.writer.0 (omega arith) (omega arith) parts.0 in
    let stamp : d.stamp.0 ≡ e.stamp.0 = decimal_injective d.stamp.0 e.stamp.0 (omega arith) (omega arith) parts.1 in
    ap (λ (w : ℕ). entry w d.stamp.0) writer ∙ ap (λ (s : ℕ). entry e.writer.0 s) stamp
