-- A full inner page has two halves, each with room for an entry.
use Rattle.std.proofs.Common.{◌≡◌, ℕ, zero, suc, ◌+◌, ◌-◌, ◌*◌, ◌/◌, ◌≤◌, ◌<◌, true, false, not, cond, nat_eq, nat_lt, List, [], ◌∷◌, ◌++◌, length, take, drop, Option, Some, refl, sym, ap, ◌∙◌, arith}
use Rattle.std.proofs.lemmas.Bool.Decides.{nat_tests}
use Rattle.std.specs.Prelude.{sum_by}
use Rattle.std.proofs.lemmas.List.Sums.{sum_by-cons}
use Rattle.std.specs.List.{AllByRecursion}
use Rattle.tm_data.specs.declared.transaction.Page.{Page}
use Rattle.tm_data.specs.declared.row.Row.{Row}
use Rattle.tm_data.specs.declared.image.Child.{Child}
use Rattle.tm_data.specs.declared.image.Body.TheVariants.{Inner}
use Rattle.tm_base.specs.Sizes.{child_size, fence_size, size_with}
use Rattle.key_fences.specs.Fences.{key_less, is_from, is_above, is_below, is_within, is_strictly_within}
use Rattle.page_model.specs.Effects.{entries_below, cut_at, suiting, fitting}
use Rattle.page_model.specs.Tree.{next_fence, first_place, entry_places}
use Rattle.page_model.specs.Sound.{Ascend, child_key, AreFences, AreItems, IsSoundChild, IsSound}
use Rattle.page_model.specs.Splits.{Halves, inner_halves, halves, is_full}
use Rattle.page_model.specs.Tiling.{AreHalves}
use Rattle.page_model.proofs.KeyLemmas.{not_both, not_less_itself}
use Rattle.tree_laws.proofs.ListLemmas.{all_front, all_back, all_map, all_both}
use Rattle.tree_laws.proofs.FenceLemmas.{both, both_true, not_false}
use Rattle.tree_laws.proofs.GroupLemmas.{fits_is}
use Rattle.tree_laws.proofs.LeafParted.{room_above, room_below, above_low}

eq_itself : (n : ℕ) → nat_eq n n ≡ true
eq_itself n = grind (arith, nat_tests)

-- ---- entries in two parts

ascend_front : (xs ys : List Child) → Ascend child_key (xs ++ ys) → Ascend child_key xs
ascend_front [] ys up = tt
ascend_front (x ∷ xs) ys up = (all_front (λ y. key_less (child_key x) (child_key y) ≡ true) xs ys up.0, ascend_front xs ys up.1)

ascend_back : (xs ys : List Child) → Ascend child_key (xs ++ ys) → Ascend child_key ys
ascend_back [] ys up = up
ascend_back (x ∷ xs) ys up = ascend_back xs ys up.1

under_first : (xs : List Child) (y : Child) (ys : List Child) → Ascend child_key (xs ++ y ∷ ys) → AllByRecursion (λ c. key_less (child_key c) y.key ≡ true) xs
under_first [] y ys up = tt
under_first (x ∷ xs) y ys up = ((all_back (λ z. key_less (child_key x) (child_key z) ≡ true) xs (y ∷ ys) up.0).0, under_first xs y ys up.1)

keep_by : (at : List ℕ) (x : Child) (xs : List Child) → key_less x.key at ≡ true → entries_below at (x ∷ xs) ≡ x ∷ entries_below at xs
keep_by at x xs h = ap (λ b. cond b (x ∷ entries_below at xs) (entries_below at xs)) h

drop_by : (at : List ℕ) (x : Child) (xs : List Child) → key_less x.key at ≡ false → entries_below at (x ∷ xs) ≡ entries_below at xs
drop_by at x xs h = ap (λ b. cond b (x ∷ entries_below at xs) (entries_below at xs)) h

none_below : (at : List ℕ) (ys : List Child) → AllByRecursion (λ y. key_less at (child_key y) ≡ true) ys → entries_below at ys ≡ []
none_below at [] h = refl
none_below at (y ∷ ys) h = drop_by at y ys (not_both at y.key h.0) ∙ none_below at ys h.1

cut_keeps : (xs : List Child) (y : Child) (ys : List Child) → Ascend child_key (xs ++ y ∷ ys) → entries_below y.key (xs ++ y ∷ ys) ≡ xs
cut_keeps [] y ys up = drop_by y.key y ys (not_less_itself y.key) ∙ none_below y.key ys up.0
cut_keeps (x ∷ xs) y ys up =
    keep_by y.key x (xs ++ y ∷ ys) (all_back (λ z. key_less (child_key x) (child_key z) ≡ true) xs (y ∷ ys) up.0).0
    ∙ ap (λ (zs : List Child). x ∷ zs) (cut_keeps xs y ys up.1)

next_joins : (xs : List Child) (c : Child) (cs : List Child) (high : Option (List ℕ)) → next_fence xs (Some c.key) ≡ next_fence (xs ++ c ∷ cs) high
next_joins [] c cs high = refl
next_joins (x ∷ xs) c cs high = refl

places_join : (xs : List Child) (c : Child) (cs : List Child) (high : Option (List ℕ))
    → entry_places (Some c.key) xs ++ (record { page = c.page; low = Some c.key; high = next_fence cs high }) ∷ entry_places high cs ≡ entry_places high (xs ++ c ∷ cs)
places_join [] c cs high = refl
places_join (x ∷ xs) c cs high = λ i. (record { page = x.page; low = Some x.key; high = next_joins xs c cs high i }) ∷ places_join xs c cs high i

children_join : (low high : Option (List ℕ)) (first : Page) (xs : List Child) (c : Child) (cs : List Child)
    → (first_place low (Some c.key) first xs ∷ entry_places (Some c.key) xs) ++ first_place (Some c.key) high c.page cs ∷ entry_places high cs ≡ first_place low high first (xs ++ c ∷ cs) ∷ entry_places high (xs ++ c ∷ cs)
children_join low high first xs c cs = λ i. (record { page = first; low = low; high = next_joins xs c cs high i }) ∷ places_join xs c cs high i

-- ---- sizes

sum_join : (xs ys : List Child) → sum_by child_size (xs ++ ys) ≡ sum_by child_size xs + sum_by child_size ys
sum_join [] ys = omega arith
sum_join (x ∷ xs) ys =
    let a = sum_by-cons child_size x (xs ++ ys) in
    let b = sum_by-cons child_size x xs in
    let c = sum_join xs ys in
    omega (arith, a, b, c)

at_least : (xs : List Child) → 5 * length xs ≤ sum_by child_size xs
at_least [] = omega arith
at_least (x ∷ xs) = let a = sum_by-cons child_size x xs in let b = at_least xs in omega (arith, a, b)

at_most : (xs : List Child) → AllByRecursion IsSoundChild xs → sum_by child_size xs ≤ 69 * length xs
at_most [] all = omega arith
at_most (x ∷ xs) all = let a = sum_by-cons child_size x xs in let b = at_most xs all.1 in let c = all.0 in omega (arith, a, b, c)

-- ---- the halves

module _ (table level : ℕ) (low high : Option (List ℕ)) (first : Page) (x : Child) (xs : List Child) (c : Child) (cs : List Child)
    (ok : IsSound (Inner table level low high first ((x ∷ xs) ++ c ∷ cs)))
    (left_size : sum_by child_size (x ∷ xs) ≤ 7900) (right_size : sum_by child_size cs ≤ 7900) where
  abbrev h : Halves
  h = record { separator = c.key; left = Inner table level low (Some c.key) first (x ∷ xs); right = Inner table level (Some c.key) high c.page cs }

  abbrev Within : Child → Type 0
  Within e = is_within low high (child_key e) ≡ true

  items : AreItems child_key IsSoundChild low high ((x ∷ xs) ++ c ∷ cs)
  items = ok.parts.1

  fences : AreFences low high
  fences = ok.parts.0

  first_within : AllByRecursion Within (x ∷ xs)
  first_within = all_front Within (x ∷ xs) (c ∷ cs) items.within

  last_within : AllByRecursion Within (c ∷ cs)
  last_within = all_back Within (x ∷ xs) (c ∷ cs) items.within

  under : AllByRecursion (λ e. key_less (child_key e) c.key ≡ true) (x ∷ xs)
  under = under_first (x ∷ xs) c cs items.ascend

  last_up : Ascend child_key (c ∷ cs)
  last_up = ascend_back (x ∷ xs) (c ∷ cs) items.ascend

  above : is_above low c.key ≡ true
  above = above_low low x.key c.key (both (is_from low x.key) (is_below high x.key) first_within.0).0 under.0

  below : is_below high c.key ≡ true
  below = (both (is_from low c.key) (is_below high c.key) last_within.0).1

  inside : is_strictly_within low high c.key ≡ true
  inside = both_true (is_above low c.key) (is_below high c.key) above below

  limited : fence_size (Some c.key) ≤ 65
  limited = let le = (all_back IsSoundChild (x ∷ xs) (c ∷ cs) items.each).0 in omega (arith, le)

  left_sound : IsSound h.left
  left_sound =
      let lo = fences.low_size in let lim = limited in
      record {
        parts = (
          record { order = room_above low c.key above; low_size = fences.low_size; high_size = limited },
          record {
            ascend = ascend_front (x ∷ xs) (c ∷ cs) items.ascend;
            within = all_map (λ e. Within e × (key_less (child_key e) c.key ≡ true)) (λ e. is_within low (Some c.key) (child_key e) ≡ true) (x ∷ xs)
                (λ e t. both_true (is_from low e.key) (key_less e.key c.key) (both (is_from low e.key) (is_below high e.key) t.0).0 t.1) (all_both Within (λ e. key_less (child_key e) c.key ≡ true) (x ∷ xs) first_within under);
            each = all_front IsSoundChild (x ∷ xs) (c ∷ cs) items.each;
          },
          ok.parts.2,
          ok.parts.3,
        );
        size = omega (arith, lo, lim, left_size);
      }

  right_sound : IsSound h.right
  right_sound =
      let hi = fences.high_size in let lim = limited in
      record {
        parts = (
          record { order = room_below high c.key below; low_size = limited; high_size = fences.high_size },
          record {
            ascend = last_up.1;
            within = all_map (λ e. Within e × (key_less (child_key c) (child_key e) ≡ true)) (λ e. is_within (Some c.key) high (child_key e) ≡ true) cs
                (λ e t. both_true (not (key_less e.key c.key)) (is_below high e.key) (not_false (key_less e.key c.key) (not_both c.key e.key t.1)) (both (is_from low e.key) (is_below high e.key) t.0).1) (all_both Within (λ e. key_less (child_key c) (child_key e) ≡ true) cs last_within.1 last_up.0);
            each = (all_back IsSoundChild (x ∷ xs) (c ∷ cs) items.each).1;
          },
          ok.parts.2,
          ok.parts.3,
        );
        size = omega (arith, hi, lim, right_size);
      }

  pub inner_parted : AreHalves (Inner table level low high first ((x ∷ xs) ++ c ∷ cs)) h
  inner_parted = record {
    inside = inside;
    level_left = refl;
    level_right = refl;
    low_left = refl;
    high_left = refl;
    low_right = refl;
    high_right = refl;
    rows = refl;
    children = children_join low high first (x ∷ xs) c cs;
    table_left = eq_itself table;
    table_right = eq_itself table;
    sound_left = left_sound;
    sound_right = right_sound;
  }

  pub inner_cut : cut_at (Inner table level low high first ((x ∷ xs) ++ c ∷ cs)) c.key ≡ Some h.left
  inner_cut =
      ap (λ b. suiting b (Inner table level low (Some c.key) first (entries_below c.key ((x ∷ xs) ++ c ∷ cs)))) inside
      ∙ ap (λ (es : List Child). fitting (Inner table level low (Some c.key) first es)) (cut_keeps (x ∷ xs) c cs items.ascend) ∙ fits_is h.left left_sound.size

  enough : (n : ℕ) → n ≤ 8123 → nat_lt (8192 - n) 69 ≡ false
  enough n le = grind (arith, nat_tests)

  pub left_room : (row : Row) → is_full row h.left ≡ false
  left_room row = let lo = fences.low_size in let lim = limited in enough (size_with h.left) (omega (arith, lo, lim, left_size))

  pub right_room : (row : Row) → is_full row h.right ≡ false
  right_room row = let hi = fences.high_size in let lim = limited in enough (size_with h.right) (omega (arith, hi, lim, right_size))

-- ---- a full page has these two parts

record At {A : Type 0} (xs : List A) (m : ℕ) : Type 0 where
  pub left : List A
  pub c : A
  pub cs : List A
  pub is : xs ≡ left ++ c ∷ cs
  pub front : take m xs ≡ left
  pub back : drop m xs ≡ c ∷ cs
  pub count : length left ≡ m

at_number : {A : Type 0} (xs : List A) (m : ℕ) → m < length xs → At xs m
at_number [] m lt = absurd (omega arith)
at_number (x ∷ xs) zero lt = record { left = []; c = x; cs = xs; is = refl; front = refl; back = refl; count = refl }
at_number {A} (x ∷ xs) (suc m) lt =
    let r = at_number xs m (omega arith) in
    let k = r.count in
    record { left = x ∷ r.left; c = r.c; cs = r.cs; is = ap (λ (ys : List A). x ∷ ys) r.is; front = ap (λ (ys : List A). x ∷ ys) r.front; back = r.back; count = omega (arith, k) }

pub record FullInner (table level : ℕ) (low high : Option (List ℕ)) (first : Page) (entries : List Child) : Type 0 where
  pub x : Child
  pub xs : List Child
  pub c : Child
  pub cs : List Child
  pub is : entries ≡ (x ∷ xs) ++ c ∷ cs
  pub left_size : sum_by child_size (x ∷ xs) ≤ 7900
  pub right_size : sum_by child_size cs ≤ 7900
  pub has : halves (Inner table level low high first entries) ≡ Some (record { separator = c.key; left = Inner table level low (Some c.key) first (x ∷ xs); right = Inner table level (Some c.key) high c.page cs })

full_by : (table level : ℕ) (low high : Option (List ℕ)) (first : Page) (entries left : List Child) (c : Child) (cs : List Child) (m whole : ℕ) → m ≡ length entries / 2 → 58 ≤ m → whole ≡ sum_by child_size entries → whole ≤ 8170
    → entries ≡ left ++ c ∷ cs → take m entries ≡ left → drop m entries ≡ c ∷ cs → length left ≡ m → 58 ≤ length cs + 1 → FullInner table level low high first entries
full_by table level low high first entries [] c cs m whole half big sum small is front back count tail = absurd (omega (arith, count, big))
full_by table level low high first entries (x ∷ xs) c cs m whole half big sum small is front back count tail =
    let a = ap (sum_by child_size) is in
    let b = sum_join (x ∷ xs) (c ∷ cs) in
    let d = at_least (c ∷ cs) in
    let e = at_least (x ∷ xs) in
    let g = sum_by-cons child_size c cs in
    record {
      x = x;
      xs = xs;
      c = c;
      cs = cs;
      is = is;
      left_size = omega (arith, sum, small, a, b, d, tail);
      right_size = omega (arith, sum, small, a, b, e, g, count, big);
      has = ap (λ n. inner_halves table level low high first (take n entries) (drop n entries)) (sym half)
          ∙ ap (λ (ls : List Child). inner_halves table level low high first ls (drop m entries)) front ∙ ap (λ (rs : List Child). inner_halves table level low high first (x ∷ xs) rs) back;
    }

length_join : (xs : List Child) (c : Child) (cs : List Child) → length (xs ++ c ∷ cs) ≡ length xs + (length cs + 1)
length_join [] c cs = omega arith
length_join (x ∷ xs) c cs = let e = length_join xs c cs in omega (arith, e)

less_room : (n : ℕ) → nat_lt (8192 - n) 69 ≡ true → 8124 ≤ n
less_room n h = grind (arith, nat_tests)

pub full_inner : (table level : ℕ) (low high : Option (List ℕ)) (first : Page) (entries : List Child) (row : Row) → IsSound (Inner table level low high first entries) → is_full row (Inner table level low high first entries) ≡ true → FullInner table level low high first entries
full_inner table level low high first entries row ok full =
    let lo = ok.parts.0.low_size in
    let hi = ok.parts.0.high_size in
    let fits = ok.size in
    let over = less_room (size_with (Inner table level low high first entries)) full in
    let most = at_most entries ok.parts.1.each in
    let n = length entries in
    let many : 116 ≤ n = omega (arith, lo, hi, over, most) in
    let m = n / 2 in
    let big : 58 ≤ m = omega (arith, many) in
    let within : m < n = omega (arith, many) in
    let at = at_number entries m within in
    let len = ap length at.is in
    let count = at.count in
    let joined : length (at.left ++ at.c ∷ at.cs) ≡ length at.left + (length at.cs + 1) = length_join at.left at.c at.cs in
    full_by table level low high first entries at.left at.c at.cs m (sum_by child_size entries) refl big refl (omega (arith, fits)) at.is at.front at.back at.count (omega (arith, len, count, joined, many))
