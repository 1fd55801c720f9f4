-- Fences and the keys between them.
use Rattle.std.proofs.Common.{◌≡◌, ℕ, Bool, true, false, not, ◌&&◌, nat_eq, List, [], ◌∷◌, Option, Some, None, refl, sym, ap, ◌∙◌, arith}
use Rattle.std.proofs.lemmas.Bool.Decides.{nat_tests}
use Rattle.std.specs.Cmp.Lexicographic.{pointwise, nat_list_eq_equiv}
use Rattle.key_fences.specs.Fences.{key_less, is_from, is_above, is_below, is_within, is_strictly_within, same_fence}
use Rattle.page_model.proofs.KeyLemmas.{less_trans, not_both, up_to_trans}

pub both : (a b : Bool) → (a && b) ≡ true → (a ≡ true) × (b ≡ true)
both true b h = (refl, h)
both false b h = cc

pub both_true : (a b : Bool) → a ≡ true → b ≡ true → (a && b) ≡ true
both_true a b h k = cc

pub not_true : (b : Bool) → not b ≡ true → b ≡ false
not_true true h = cc
not_true false h = refl

pub not_false : (b : Bool) → b ≡ false → not b ≡ true
not_false true h = cc
not_false false h = refl

same_number : (x y : ℕ) → nat_eq x y ≡ true → x ≡ y
same_number x y h = grind (arith, nat_tests)

pub same_list : (a b : List ℕ) → pointwise nat_eq a b ≡ true → a ≡ b
same_list [] [] h = refl
same_list [] (y ∷ ys) h = cc
same_list (x ∷ xs) [] h = cc
same_list (x ∷ xs) (y ∷ ys) h =
    let p = both (nat_eq x y) (pointwise nat_eq xs ys) h in
    let e = same_number x y p.0 in let f = same_list xs ys p.1 in cc

pub same_is : (a b : Option (List ℕ)) → same_fence a b ≡ true → a ≡ b
same_is None None h = refl
same_is None (Some b) h = cc
same_is (Some a) None h = cc
same_is (Some a) (Some b) h = ap Some (same_list a b h)

pub is_same : (a : Option (List ℕ)) → same_fence a a ≡ true
is_same None = refl
is_same (Some a) = nat_list_eq_equiv.refl a

pub is_same_as : (a b : Option (List ℕ)) → a ≡ b → same_fence a b ≡ true
is_same_as a b e = ap (same_fence a) (sym e) ∙ is_same a

-- ---- keys between fences

pub below_more : (high : Option (List ℕ)) (key c : List ℕ) → is_below high c ≡ true → key_less key c ≡ true → is_below high key ≡ true
below_more None key c h k = refl
below_more (Some high) key c h k = less_trans key c high k h

pub from_more : (low : Option (List ℕ)) (c key : List ℕ) → is_from low c ≡ true → key_less key c ≡ false → is_from low key ≡ true
from_more None c key h k = refl
from_more (Some low) c key h k = not_false (key_less key low) (up_to_trans low c key (not_true (key_less c low) h) k)

-- a key above the low fence is from it on
pub above_from : (low : Option (List ℕ)) (key : List ℕ) → is_above low key ≡ true → is_from low key ≡ true
above_from None key h = refl
above_from (Some low) key h = not_false (key_less key low) (not_both low key h)

pub strictly_within : (low high : Option (List ℕ)) (key : List ℕ) → is_strictly_within low high key ≡ true → is_within low high key ≡ true
strictly_within low high key h =
    let p = both (is_above low key) (is_below high key) h in both_true (is_from low key) (is_below high key) (above_from low key p.0) p.1

-- what a half may hold, the whole may
pub left_holds : (low high : Option (List ℕ)) (at key : List ℕ) → is_strictly_within low high at ≡ true → is_within low (Some at) key ≡ true → is_within low high key ≡ true
left_holds low high at key inside h =
    let s = both (is_above low at) (is_below high at) inside in
    let p = both (is_from low key) (key_less key at) h in
    both_true (is_from low key) (is_below high key) p.0 (below_more high key at s.1 p.1)

pub right_holds : (low high : Option (List ℕ)) (at key : List ℕ) → is_strictly_within low high at ≡ true → is_within (Some at) high key ≡ true → is_within low high key ≡ true
right_holds low high at key inside h =
    let s = both (is_above low at) (is_below high at) inside in
    let p = both (not (key_less key at)) (is_below high key) h in
    both_true (is_from low key) (is_below high key) (from_more low at key (above_from low at s.0) (not_true (key_less key at) p.0)) p.1

-- no key is in both halves
pub halves_apart : (low high : Option (List ℕ)) (at key : List ℕ) → is_within low (Some at) key ≡ true → is_within (Some at) high key ≡ true → ⊥
halves_apart low high at key h k =
    let p = both (is_from low key) (key_less key at) h in
    let q = not_true (key_less key at) (both (not (key_less key at)) (is_below high key) k).0 in
    cc
