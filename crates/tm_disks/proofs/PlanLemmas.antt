-- Which of the coming calls of a disk in memory fail.
use Rattle.std.proofs.Common.{◌≡◌, ◌↔◌, ℕ, zero, suc, ◌+◌, ◌^◌, ◌<◌, ◌≤◌, Bool, true, false, IsTrue, Contains, List, [], ◌∷◌, length, get_or, refl, sym, arith, inl, inr}
use Rattle.std.proofs.lemmas.Bool.{cases_eq, false≢true}
use Rattle.std.proofs.lemmas.Bool.Decides.{nat_tests}
use Rattle.tm_ports.specs.Calls.{risen}
use Rattle.tm_disks.specs.Disk.{has_next, all_lower}
use Rattle.tm_disks.specs.MemoryDisk.{coming}

-- one call later each number is one lower
pub later_coming : (fs : List ℕ) (made : ℕ) → coming fs (risen made) ≡ all_lower (coming fs made)
later_coming [] made = refl
later_coming (f ∷ fs) made = let rest = later_coming fs made in grind (arith, nat_tests, rest)

pub none_coming : (fs : List ℕ) (made : ℕ) → 2 ^ 64 ≤ made + 1 → has_next (coming fs made) ≡ false
none_coming [] made top = refl
none_coming (f ∷ fs) made top = let rest = none_coming fs made top in grind (arith, nat_tests, rest)

has_from : (fs : List ℕ) (made : ℕ) → made + 1 < 2 ^ 64 → (i : ℕ) → i < length fs → get_or fs i (made + 1) ≡ made + 1 → has_next (coming fs made) ≡ true
has_from [] made low i within is = absurd (omega arith)
has_from (f ∷ fs) made low zero within is = grind (arith, nat_tests)
has_from (f ∷ fs) made low (suc i) within is = let rest = has_from fs made low i (omega arith) is in grind (arith, nat_tests, rest)

has_to : (fs : List ℕ) (made : ℕ) → made + 1 < 2 ^ 64 → has_next (coming fs made) ≡ true → Contains fs (made + 1)
has_to [] made low has = absurd (false≢true has)
has_to (f ∷ fs) made low has = elim (cases_eq f (made + 1)) [
  | inl here ↦ (0, omega arith, here)
  | inr other ↦
      let later : has_next (coming fs made) ≡ true = grind (arith, nat_tests) in
      let there = has_to fs made low later in
      (suc there.0, omega (arith, there.1), there.2)
]

same_truth : (a b : Bool) → (IsTrue a → b ≡ true) → (b ≡ true → IsTrue a) → a ≡ b
same_truth true true to from = refl
same_truth true false to from = sym (to refl)
same_truth false true to from = from refl
same_truth false false to from = refl

pub listed : (fs : List ℕ) (made : ℕ) (r : Bool) → made + 1 < 2 ^ 64 → IsTrue r ↔ Contains fs (made + 1) → r ≡ has_next (coming fs made)
listed fs made r low found =
    same_truth r (has_next (coming fs made)) (λ yes. let held = found.0 yes in has_from fs made low held.0 held.1 held.2)
    (λ has. found.1 (has_to fs made low has))
