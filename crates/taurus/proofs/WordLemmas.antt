-- The words of the command line.
use Rattle.std.proofs.Common.{◌≡◌, ◌∙◌, ℕ, List, [], ◌∷◌, Bool, true, false, length, get_or, refl, sym, ap, arith}
use Rattle.std.specs.Bool.{OnTrue, OnFalse}

pub words_are : (words : List (List ℕ)) (word : List ℕ) → length words ≡ 1 → word ≡ get_or words 0 word → words ≡ word ∷ []
words_are [] word one is = absurd (omega arith)
words_are (w ∷ []) word one is = ap (λ (x : List ℕ). x ∷ []) (sym is)
words_are (w ∷ v ∷ words) word one is = absurd (omega arith)

pub on_true : (test : Bool) (P : Type 0) → (test ≡ true → P) → OnTrue test P
on_true true P f = f refl
on_true false P f = tt

pub on_false : (test : Bool) (P : Type 0) → (test ≡ false → P) → OnFalse test P
on_false true P f = tt
on_false false P f = f refl

pub first_of_one : (a b : List ℕ) → a ∷ [] ≡ b ∷ [] → a ≡ b
first_of_one a b e = cc
