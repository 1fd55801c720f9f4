-- The halves of a full leaf.
use Rattle.std.proofs.Common.{◌≡◌, ℕ, suc, ◌+◌, ◌*◌, ◌≤◌, ◌<◌, Bool, true, false, cond, nat_le, List, [], ◌∷◌, ◌++◌, take, drop, refl, ap, ◌∙◌, arith, inl, inr, ◌⊎◌}
use Rattle.std.proofs.lemmas.Bool.Decides.{nat_tests}
use Rattle.std.specs.Prelude.{sum_by}
use Rattle.std.proofs.lemmas.List.Sums.{sum_by-cons}
use Rattle.std.specs.List.{AllByRecursion}
use Rattle.tm_data.specs.declared.row.Row.{Row}
use Rattle.tm_base.specs.Sizes.{row_size}
use Rattle.key_fences.specs.Fences.{key_less}
use Rattle.page_model.specs.Effects.{row_set, rows_below}
use Rattle.page_model.specs.Sound.{Ascend, key_of}
use Rattle.page_model.specs.Splits.{rows_reaching}
use Rattle.page_model.proofs.KeyLemmas.{not_both, not_less_itself}
use Rattle.tree_laws.proofs.ListLemmas.{all_front, all_back}

-- ---- a list in two parts

abbrev Under : List ℕ → Row → Type 0
Under key r = key_less (key_of r) key ≡ true

-- what ascends does so in both parts, and the first key of the second part is above the first part
pub ascend_front : (xs ys : List Row) → Ascend key_of (xs ++ ys) → Ascend key_of xs
ascend_front [] ys up = tt
ascend_front (x ∷ xs) ys up = (all_front (λ y. key_less (key_of x) (key_of y) ≡ true) xs ys up.0, ascend_front xs ys up.1)

pub ascend_back : (xs ys : List Row) → Ascend key_of (xs ++ ys) → Ascend key_of ys
ascend_back [] ys up = up
ascend_back (x ∷ xs) ys up = ascend_back xs ys up.1

pub under_first : (xs : List Row) (y : Row) (ys : List Row) → Ascend key_of (xs ++ y ∷ ys) → AllByRecursion (Under y.key) xs
under_first [] y ys up = tt
under_first (x ∷ xs) y ys up = ((all_back (λ z. key_less (key_of x) (key_of z) ≡ true) xs (y ∷ ys) up.0).0, under_first xs y ys up.1)

-- what a cut keeps
keep_by : (at : List ℕ) (x : Row) (xs : List Row) → key_less x.key at ≡ true → rows_below at (x ∷ xs) ≡ x ∷ rows_below at xs
keep_by at x xs h = ap (λ b. cond b (x ∷ rows_below at xs) (rows_below at xs)) h

drop_by : (at : List ℕ) (x : Row) (xs : List Row) → key_less x.key at ≡ false → rows_below at (x ∷ xs) ≡ rows_below at xs
drop_by at x xs h = ap (λ b. cond b (x ∷ rows_below at xs) (rows_below at xs)) h

none_below : (at : List ℕ) (ys : List Row) → AllByRecursion (λ y. key_less at (key_of y) ≡ true) ys → rows_below at ys ≡ []
none_below at [] h = refl
none_below at (y ∷ ys) h = drop_by at y ys (not_both at y.key h.0) ∙ none_below at ys h.1

pub cut_keeps : (xs : List Row) (y : Row) (ys : List Row) → Ascend key_of (xs ++ y ∷ ys) → rows_below y.key (xs ++ y ∷ ys) ≡ xs
cut_keeps [] y ys up = drop_by y.key y ys (not_less_itself y.key) ∙ none_below y.key ys up.0
cut_keeps (x ∷ xs) y ys up =
    keep_by y.key x (xs ++ y ∷ ys) (all_back (λ z. key_less (key_of x) (key_of z) ≡ true) xs (y ∷ ys) up.0).0
    ∙ ap (λ (zs : List Row). x ∷ zs) (cut_keeps xs y ys up.1)

-- ---- sizes

pub sum_join : (xs ys : List Row) → sum_by row_size (xs ++ ys) ≡ sum_by row_size xs + sum_by row_size ys
sum_join [] ys = omega arith
sum_join (x ∷ xs) ys =
    let a = sum_by-cons row_size x (xs ++ ys) in
    let b = sum_by-cons row_size x xs in
    let c = sum_join xs ys in
    omega (arith, a, b, c)

set_by : (r : Row) (rs set : List Row) (row : Row) (a b : Bool) → sum_by row_size set ≤ sum_by row_size rs + row_size row → sum_by row_size (cond a (r ∷ set) (cond b (row ∷ r ∷ rs) (row ∷ rs))) ≤ sum_by row_size (r ∷ rs) + row_size row
set_by r rs set row true b le =
    let a = sum_by-cons row_size r set in let c = sum_by-cons row_size r rs in omega (arith, a, c, le)
set_by r rs set row false true le =
    let a = sum_by-cons row_size row (r ∷ rs) in omega (arith, a)
set_by r rs set row false false le =
    let a = sum_by-cons row_size row rs in let c = sum_by-cons row_size r rs in omega (arith, a, c)

pub set_size : (rows : List Row) (row : Row) → sum_by row_size (row_set rows row) ≤ sum_by row_size rows + row_size row
set_size [] row = let a = sum_by-cons row_size row [] in omega (arith, a)
set_size (r ∷ rs) row = set_by r rs (row_set rs row) row (key_less r.key row.key) (key_less row.key r.key) (set_size rs row)

-- ---- where a leaf is parted

-- The first rows, doubled, reach the sum, and without the last of them they don't.
pub record Reached (whole so_far : ℕ) (rows : List Row) : Type 0 where
  pub left : List Row
  pub right : List Row
  pub is : rows ≡ left ++ right
  pub front : take (rows_reaching whole so_far rows) rows ≡ left
  pub back : drop (rows_reaching whole so_far rows) rows ≡ right
  pub enough : (right ≡ []) ⊎ (whole ≤ 2 * (so_far + sum_by row_size left))
  pub least : ((left ≡ []) × (whole ≤ 2 * so_far ⊎ (rows ≡ []))) ⊎ (2 * (so_far + sum_by row_size left) < whole + 2203)

abbrev Small : Row → Type 0
Small r = row_size r ≤ 1101

reach_by : (whole so_far : ℕ) (r : Row) (rs : List Row) (b : Bool) → nat_le whole (2 * so_far) ≡ b → Small r → Reached whole (so_far + row_size r) rs → Reached whole so_far (r ∷ rs)
reach_by whole so_far r rs true e small rest =
    let n : rows_reaching whole so_far (r ∷ rs) ≡ 0 = ap (λ b. cond b 0 (rows_reaching whole (so_far + row_size r) rs + 1)) e in
    let le : whole ≤ 2 * so_far = grind (arith, nat_tests) in
    record {
      left = [];
      right = r ∷ rs;
      is = refl;
      front = ap (λ m. take m (r ∷ rs)) n;
      back = ap (λ m. drop m (r ∷ rs)) n;
      enough = inr (omega (arith, le));
      least = inl (refl, inl le);
    }
reach_by whole so_far r rs false e small rest =
    let k = rows_reaching whole (so_far + row_size r) rs in
    let n : rows_reaching whole so_far (r ∷ rs) ≡ suc k = ap (λ b. cond b 0 (k + 1)) e ∙ (let q : k + 1 ≡ suc k = omega arith in q) in
    let more : 2 * so_far < whole = grind (arith, nat_tests) in
    let s = sum_by-cons row_size r rest.left in
    record {
      left = r ∷ rest.left;
      right = rest.right;
      is = ap (λ (xs : List Row). r ∷ xs) rest.is;
      front = ap (λ m. take m (r ∷ rs)) n ∙ ap (λ (xs : List Row). r ∷ xs) rest.front;
      back = ap (λ m. drop m (r ∷ rs)) n ∙ rest.back;
      enough = elim rest.enough [ inl q ↦ inl q | inr le ↦ inr (omega (arith, le, s)) ];
      least = inr (elim rest.least [
        | inl q ↦ (let z = ap (sum_by row_size) q.0 in omega (arith, z, s, more, small))
        | inr lt ↦ omega (arith, lt, s)
      ]);
    }

pub reached : (whole so_far : ℕ) (rows : List Row) → AllByRecursion Small rows → Reached whole so_far rows
reached whole so_far [] small = record { left = []; right = []; is = refl; front = refl; back = refl; enough = inl refl; least = inl (refl, inr refl) }
reached whole so_far (r ∷ rs) small = reach_by whole so_far r rs (nat_le whole (2 * so_far)) refl small.0 (reached whole (so_far + row_size r) rs small.1)
