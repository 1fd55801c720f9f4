-- A full leaf has two halves, each with room for a row.
use Rattle.std.proofs.Common.{◌≡◌, ℕ, ◌+◌, ◌*◌, ◌≤◌, ◌<◌, true, false, not, nat_eq, nat_lt, List, [], ◌∷◌, ◌++◌, take, drop, Option, Some, None, refl, ap, ◌∙◌, arith, inl, inr, ◌⊎◌}
use Rattle.std.proofs.lemmas.Bool.Decides.{nat_tests}
use Rattle.std.specs.Prelude.{sum_by}
use Rattle.std.specs.List.{AllByRecursion}
use Rattle.tm_data.specs.declared.row.Row.{Row}
use Rattle.tm_data.specs.declared.image.Body.TheVariants.{Leaf}
use Rattle.tm_base.specs.Sizes.{row_size, fence_size, size_with}
use Rattle.key_fences.specs.Fences.{key_less, is_from, is_above, is_below, is_within, is_strictly_within, leave_room}
use Rattle.page_model.specs.Effects.{row_set, rows_below, cut_at, suiting, fitting}
use Rattle.page_model.specs.Sound.{Ascend, key_of, AreFences, AreItems, IsSoundRow, IsSound}
use Rattle.page_model.specs.Splits.{Halves, left_rows, leaf_halves, halves, is_full}
use Rattle.page_model.specs.Tiling.{AreHalves}
use Rattle.page_model.proofs.KeyLemmas.{not_both, up_to_less, not_less_itself}
use Rattle.tree_laws.proofs.ListLemmas.{all_front, all_back, all_map, all_both}
use Rattle.tree_laws.proofs.FenceLemmas.{both, both_true, not_true, not_false}
use Rattle.tree_laws.proofs.GroupLemmas.{fits_is}
use Rattle.tree_laws.proofs.LeafHalves.{ascend_front, ascend_back, under_first, cut_keeps, sum_join, set_size, reached}

eq_itself : (n : ℕ) → nat_eq n n ≡ true
eq_itself n = grind (arith, nat_tests)

pub room_above : (low : Option (List ℕ)) (key : List ℕ) → is_above low key ≡ true → leave_room low (Some key) ≡ true
room_above None key h = refl
room_above (Some low) key h = h

pub room_below : (high : Option (List ℕ)) (key : List ℕ) → is_below high key ≡ true → leave_room (Some key) high ≡ true
room_below None key h = refl
room_below (Some high) key h = h

pub above_low : (low : Option (List ℕ)) (x y : List ℕ) → is_from low x ≡ true → key_less x y ≡ true → is_above low y ≡ true
above_low None x y h k = refl
above_low (Some low) x y h k = up_to_less low x y (not_true (key_less x low) h) k

-- the two parts of a leaf: at least one row in each
module _ (table : ℕ) (low high : Option (List ℕ)) (x : Row) (xs : List Row) (y : Row) (ys : List Row)
    (ok : IsSound (Leaf table low high ((x ∷ xs) ++ y ∷ ys)))
    (left_size : sum_by row_size (x ∷ xs) ≤ 5200) (right_size : sum_by row_size (y ∷ ys) ≤ 5200) where
  abbrev h : Halves
  h = record { separator = y.key; left = Leaf table low (Some y.key) (x ∷ xs); right = Leaf table (Some y.key) high (y ∷ ys) }

  abbrev Within : Row → Type 0
  Within r = is_within low high (key_of r) ≡ true

  items : AreItems key_of IsSoundRow low high ((x ∷ xs) ++ y ∷ ys)
  items = ok.parts.1

  fences : AreFences low high
  fences = ok.parts.0

  first_within : AllByRecursion Within (x ∷ xs)
  first_within = all_front Within (x ∷ xs) (y ∷ ys) items.within

  last_within : AllByRecursion Within (y ∷ ys)
  last_within = all_back Within (x ∷ xs) (y ∷ ys) items.within

  under : AllByRecursion (λ r. key_less (key_of r) y.key ≡ true) (x ∷ xs)
  under = under_first (x ∷ xs) y ys items.ascend

  last_up : Ascend key_of (y ∷ ys)
  last_up = ascend_back (x ∷ xs) (y ∷ ys) items.ascend

  above : is_above low y.key ≡ true
  above = above_low low x.key y.key (both (is_from low x.key) (is_below high x.key) first_within.0).0 under.0

  below : is_below high y.key ≡ true
  below = (both (is_from low y.key) (is_below high y.key) last_within.0).1

  inside : is_strictly_within low high y.key ≡ true
  inside = both_true (is_above low y.key) (is_below high y.key) above below

  limited : fence_size (Some y.key) ≤ 65
  limited = let le = (all_back IsSoundRow (x ∷ xs) (y ∷ ys) items.each).0.key in omega (arith, le)

  left_sound : IsSound h.left
  left_sound =
      let lo = fences.low_size in let lim = limited in
      record {
        parts = (
          record { order = room_above low y.key above; low_size = fences.low_size; high_size = limited },
          record {
            ascend = ascend_front (x ∷ xs) (y ∷ ys) items.ascend;
            within = all_map (λ r. Within r × (key_less (key_of r) y.key ≡ true)) (λ r. is_within low (Some y.key) (key_of r) ≡ true) (x ∷ xs)
                (λ r t. both_true (is_from low r.key) (key_less r.key y.key) (both (is_from low r.key) (is_below high r.key) t.0).0 t.1) (all_both Within (λ r. key_less (key_of r) y.key ≡ true) (x ∷ xs) first_within under);
            each = all_front IsSoundRow (x ∷ xs) (y ∷ ys) items.each;
          },
        );
        size = omega (arith, lo, lim, left_size);
      }

  after_first : AllByRecursion (λ r. key_less (key_of r) y.key ≡ false) (y ∷ ys)
  after_first = (not_less_itself y.key, all_map (λ r. key_less (key_of y) (key_of r) ≡ true) (λ r. key_less (key_of r) y.key ≡ false) ys (λ r t. not_both y.key r.key t) last_up.0)

  right_sound : IsSound h.right
  right_sound =
      let hi = fences.high_size in let lim = limited in
      record {
        parts = (
          record { order = room_below high y.key below; low_size = limited; high_size = fences.high_size },
          record {
            ascend = last_up;
            within = all_map (λ r. Within r × (key_less (key_of r) y.key ≡ false)) (λ r. is_within (Some y.key) high (key_of r) ≡ true) (y ∷ ys)
                (λ r t. both_true (not (key_less r.key y.key)) (is_below high r.key) (not_false (key_less r.key y.key) t.1) (both (is_from low r.key) (is_below high r.key) t.0).1) (all_both Within (λ r. key_less (key_of r) y.key ≡ false) (y ∷ ys) last_within after_first);
            each = all_back IsSoundRow (x ∷ xs) (y ∷ ys) items.each;
          },
        );
        size = omega (arith, hi, lim, right_size);
      }

  pub leaf_parted : AreHalves (Leaf table low high ((x ∷ xs) ++ y ∷ ys)) h
  leaf_parted = record {
    inside = inside;
    level_left = refl;
    level_right = refl;
    low_left = refl;
    high_left = refl;
    low_right = refl;
    high_right = refl;
    rows = refl;
    children = refl;
    table_left = eq_itself table;
    table_right = eq_itself table;
    sound_left = left_sound;
    sound_right = right_sound;
  }

  pub leaf_cut : cut_at (Leaf table low high ((x ∷ xs) ++ y ∷ ys)) y.key ≡ Some h.left
  leaf_cut =
      ap (λ b. suiting b (Leaf table low (Some y.key) (rows_below y.key ((x ∷ xs) ++ y ∷ ys)))) inside
      ∙ ap (λ (rs : List Row). fitting (Leaf table low (Some y.key) rs)) (cut_keeps (x ∷ xs) y ys items.ascend) ∙ fits_is h.left left_sound.size

  not_less : (n : ℕ) → n ≤ 8192 → nat_lt 8192 n ≡ false
  not_less n le = grind (arith, nat_tests)

  pub left_room : (row : Row) → IsSoundRow row → is_full row h.left ≡ false
  left_room row sound =
      let lo = fences.low_size in let lim = limited in let more = set_size (x ∷ xs) row in let r = sound.size in
      not_less (size_with (Leaf table low (Some y.key) (row_set (x ∷ xs) row))) (omega (arith, lo, lim, more, r, left_size))

  pub right_room : (row : Row) → IsSoundRow row → is_full row h.right ≡ false
  right_room row sound =
      let hi = fences.high_size in let lim = limited in let more = set_size (y ∷ ys) row in let r = sound.size in
      not_less (size_with (Leaf table (Some y.key) high (row_set (y ∷ ys) row))) (omega (arith, hi, lim, more, r, right_size))

-- ---- a full leaf has these two parts

pub record FullLeaf (table : ℕ) (low high : Option (List ℕ)) (rows : List Row) : Type 0 where
  pub x : Row
  pub xs : List Row
  pub y : Row
  pub ys : List Row
  pub is : rows ≡ (x ∷ xs) ++ y ∷ ys
  pub left_size : sum_by row_size (x ∷ xs) ≤ 5200
  pub right_size : sum_by row_size (y ∷ ys) ≤ 5200
  pub has : halves (Leaf table low high rows) ≡ Some (record { separator = y.key; left = Leaf table low (Some y.key) (x ∷ xs); right = Leaf table (Some y.key) high (y ∷ ys) })

full_by : (table : ℕ) (low high : Option (List ℕ)) (rows left right : List Row) (whole : ℕ) → whole ≡ sum_by row_size rows → 2203 ≤ whole → whole ≤ 8174 → rows ≡ left ++ right
    → take (left_rows rows) rows ≡ left → drop (left_rows rows) rows ≡ right
    → (right ≡ []) ⊎ (whole ≤ 2 * (0 + sum_by row_size left)) → ((left ≡ []) × (whole ≤ 2 * 0 ⊎ (rows ≡ []))) ⊎ (2 * (0 + sum_by row_size left) < whole + 2203)
    → FullLeaf table low high rows
full_by table low high rows [] right whole sum big small is front back (inl none) least =
    let a = ap (sum_by row_size) is in let b = ap (sum_by row_size) none in absurd (omega (arith, sum, a, b, big))
full_by table low high rows [] right whole sum big small is front back (inr le) least = absurd (omega (arith, le, big))
full_by table low high rows (x ∷ xs) [] whole sum big small is front back enough (inl none) = let q = none.0 in cc
full_by table low high rows (x ∷ xs) [] whole sum big small is front back enough (inr lt) =
    let a = ap (sum_by row_size) is in let b = sum_join (x ∷ xs) [] in absurd (omega (arith, sum, a, b, lt, big))
full_by table low high rows (x ∷ xs) (y ∷ ys) whole sum big small is front back enough (inl none) = let q = none.0 in cc
full_by table low high rows (x ∷ xs) (y ∷ ys) whole sum big small is front back (inl none) (inr lt) = cc
full_by table low high rows (x ∷ xs) (y ∷ ys) whole sum big small is front back (inr le) (inr lt) =
    let a = ap (sum_by row_size) is in
    let b = sum_join (x ∷ xs) (y ∷ ys) in
    record {
      x = x;
      xs = xs;
      y = y;
      ys = ys;
      is = is;
      left_size = omega (arith, lt, small);
      right_size = omega (arith, sum, a, b, le, small);
      has = ap (λ (ls : List Row). leaf_halves table low high ls (drop (left_rows rows) rows)) front ∙ ap (λ (rs : List Row). leaf_halves table low high (x ∷ xs) rs) back;
    }

more_than : (n : ℕ) → nat_lt 8192 n ≡ true → 8192 < n
more_than n h = grind (arith, nat_tests)

pub full_leaf : (table : ℕ) (low high : Option (List ℕ)) (rows : List Row) (row : Row) → IsSound (Leaf table low high rows) → IsSoundRow row → is_full row (Leaf table low high rows) ≡ true → FullLeaf table low high rows
full_leaf table low high rows row ok sound full =
    let whole = sum_by row_size rows in
    let lo = ok.parts.0.low_size in
    let hi = ok.parts.0.high_size in
    let r = sound.size in
    let more = set_size rows row in
    let over = more_than (size_with (Leaf table low high (row_set rows row))) full in
    let fits = ok.size in
    let small = all_map IsSoundRow (λ x. row_size x ≤ 1101) rows (λ x s. s.size) ok.parts.1.each in
    let parts = reached whole 0 rows small in
    full_by table low high rows parts.left parts.right whole refl (omega (arith, lo, hi, r, more, over)) (omega (arith, fits)) parts.is parts.front parts.back parts.enough parts.least
