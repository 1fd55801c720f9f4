-- An item put into the place of its key is set among the others, and what that makes of their size.
use Rattle.std.proofs.Common.{◌≡◌, ◌≤◌, ◌<◌, ◌+◌, ℕ, Bool, true, false, cond, List, [], ◌∷◌, Option, Some, None, refl, ap, ◌∙◌, arith}
use Rattle.std.specs.Prelude.{min, sum_by, nat_le, nat_lt}
use Rattle.std.proofs.lemmas.Bool.Decides.{nat_tests}
use Rattle.std.proofs.lemmas.List.Sums.{sum_by-cons}
use Rattle.tm_data.specs.declared.row.Row.{Row}
use Rattle.tm_data.specs.declared.image.Child.{Child}
use Rattle.tm_data.specs.declared.image.Body.{Body}
use Rattle.tm_data.specs.declared.image.Body.TheVariants.{Leaf}
use Rattle.tm_lists.specs.declared.kept.KeyPlace.{KeyPlace}
use Rattle.tm_lists.specs.declared.kept.KeyPlace.TheVariants.{At, Before}
use Rattle.tm_lists.specs.Keys.{key_less}
use Rattle.tm_lists.specs.Kept.{further, put_at, size_at}
use Rattle.tm_base.specs.Sizes.{MOST, row_size, size_with}
use Rattle.page_model.specs.Effects.{row_set, entry_added, in_front}
use Rattle.page_model.specs.Placed.{row_place, child_place, is_before, size_there, row_fits}

put_further : {X : Type 0} (x : X) (xs : List X) (y : X) (p : KeyPlace) → put_at (x ∷ xs) y (further p) ≡ x ∷ put_at xs y p
put_further x xs y (At at) = refl
put_further x xs y (Before at) = refl

size_further : (r : Row) (rs : List Row) (p : KeyPlace) → size_at row_size (r ∷ rs) (further p) ≡ size_at row_size rs p
size_further r rs (At at) = refl
size_further r rs (Before at) = refl

-- Putting a row into its place sets it.
put_next : (r : Row) (rs : List Row) (new : Row) (b c : Bool) → put_at rs new (row_place rs new.key) ≡ row_set rs new
    → put_at (r ∷ rs) new (cond b (further (row_place rs new.key)) (cond c (Before 0) (At 0))) ≡ cond b (r ∷ row_set rs new) (cond c (new ∷ r ∷ rs) (new ∷ rs))
put_next r rs new true c h = put_further r rs new (row_place rs new.key) ∙ ap (λ l. r ∷ l) h
put_next r rs new false true h = refl
put_next r rs new false false h = refl

pub put_is_set : (rows : List Row) (new : Row) → put_at rows new (row_place rows new.key) ≡ row_set rows new
put_is_set [] new = refl
put_is_set (r ∷ rs) new = put_next r rs new (key_less r.key new.key) (key_less new.key r.key) (put_is_set rs new)

-- Setting a row takes the size of the one in its place away.
size_next : (r : Row) (rs : List Row) (new : Row) (b c : Bool) → sum_by row_size (row_set rs new) + size_there rs new.key ≡ sum_by row_size rs + row_size new
    → sum_by row_size (cond b (r ∷ row_set rs new) (cond c (new ∷ r ∷ rs) (new ∷ rs))) + size_at row_size (r ∷ rs) (cond b (further (row_place rs new.key)) (cond c (Before 0) (At 0)))
    ≡ sum_by row_size (r ∷ rs) + row_size new
size_next r rs new true c h =
    omega (arith, h, size_further r rs (row_place rs new.key), sum_by-cons row_size r (row_set rs new), sum_by-cons row_size r rs)
size_next r rs new false true h = omega (arith, sum_by-cons row_size new (r ∷ rs))
size_next r rs new false false h = omega (arith, sum_by-cons row_size new rs, sum_by-cons row_size r rs)

pub size_set : (rows : List Row) (new : Row) → sum_by row_size (row_set rows new) + size_there rows new.key ≡ sum_by row_size rows + row_size new
size_set [] new = omega (arith, sum_by-cons row_size new [])
size_set (r ∷ rs) new = size_next r rs new (key_less r.key new.key) (key_less new.key r.key) (size_set rs new)

-- ---- what fits

pub same_test : (a b c d : ℕ) (x y : Bool) → nat_le a b ≡ x → nat_le c d ≡ y → (a ≤ b → c ≤ d) → (c ≤ d → a ≤ b) → x ≡ y
same_test a b c d true true is_x is_y on back = refl
same_test a b c d true false is_x is_y on back = absurd (grind (arith, nat_tests))
same_test a b c d false true is_x is_y on back = absurd (grind (arith, nat_tests))
same_test a b c d false false is_x is_y on back = refl

pub leaf_fits : (table : ℕ) (low high : Option (List ℕ)) (rows : List Row) (new : Row) (whole : ℕ) → whole ≡ min (size_with (Leaf table low high rows)) MOST → size_there rows new.key ≤ 1101
    → row_fits whole rows new ≡ nat_le (size_with (Leaf table low high (row_set rows new))) 8192
leaf_fits table low high rows new whole is small =
    let s = size_set rows new in
    same_test _ _ _ _ (row_fits whole rows new) (nat_le (size_with (Leaf table low high (row_set rows new))) 8192) refl refl
    (λ h. omega (arith, is, small, s, h)) (λ h. omega (arith, is, small, s, h))

-- A leaf is full where the row doesn't fit.
pub leaf_full : (table : ℕ) (low high : Option (List ℕ)) (rows : List Row) (new : Row) (whole total : ℕ) → whole ≡ min (size_with (Leaf table low high rows)) MOST → size_there rows new.key ≤ 1101 → total ≡ min (whole + row_size new) MOST
    → nat_lt (8192 + size_there rows new.key) total ≡ nat_lt 8192 (size_with (Leaf table low high (row_set rows new)))
leaf_full table low high rows new whole total is small sum =
    let s = size_set rows new in
    same_order _ _ _ _ (nat_lt (8192 + size_there rows new.key) total) (nat_lt 8192 (size_with (Leaf table low high (row_set rows new)))) refl refl
    (λ h. omega (arith, is, small, sum, s, h)) (λ h. omega (arith, is, small, sum, s, h))
  where
    same_order : (a b c d : ℕ) (x y : Bool) → nat_lt a b ≡ x → nat_lt c d ≡ y → (a < b → c < d) → (c < d → a < b) → x ≡ y
    same_order a b c d true true is_x is_y on back = refl
    same_order a b c d true false is_x is_y on back = absurd (grind (arith, nat_tests))
    same_order a b c d false true is_x is_y on back = absurd (grind (arith, nat_tests))
    same_order a b c d false false is_x is_y on back = refl

-- ---- children

-- A child is added where its key is new.
added_next : (c : Child) (cs : List Child) (new : Child) (b d : Bool)
    → entry_added cs new ≡ cond (is_before (child_place cs new.key)) (Some (put_at cs new (child_place cs new.key))) None
    → cond b (in_front c (entry_added cs new)) (cond d (Some (new ∷ c ∷ cs)) None)
    ≡ cond (is_before (cond b (further (child_place cs new.key)) (cond d (Before 0) (At 0)))) (Some (put_at (c ∷ cs) new (cond b (further (child_place cs new.key)) (cond d (Before 0) (At 0))))) None
added_next c cs new true d h = ap (in_front c) h ∙ further_on (child_place cs new.key)
  where
    further_on : (p : KeyPlace) → in_front c (cond (is_before p) (Some (put_at cs new p)) None) ≡ cond (is_before (further p)) (Some (put_at (c ∷ cs) new (further p))) None
    further_on (At at) = refl
    further_on (Before at) = refl
added_next c cs new false true h = refl
added_next c cs new false false h = refl

pub added_is : (entries : List Child) (new : Child) → entry_added entries new ≡ cond (is_before (child_place entries new.key)) (Some (put_at entries new (child_place entries new.key))) None
added_is [] new = refl
added_is (c ∷ cs) new = added_next c cs new (key_less c.key new.key) (key_less new.key c.key) (added_is cs new)
