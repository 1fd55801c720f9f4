-- The records of a plan have spellings, where the images of its path have.
use Rattle.std.proofs.Common.{◌≡◌, ℕ, ◌+◌, ◌<◌, Bool, true, false, cond, nat_le, nat_lt, List, [], ◌∷◌, length, reverse, take, drop, Option, Some, None, Result, Ok, Err, refl, sym, ◌∙◌, subst, arith}
use Rattle.std.proofs.lemmas.Bool.Decides.{nat_tests}
use Rattle.std.proofs.lemmas.List.{take-append-drop}
use Rattle.std.specs.List.{AllByRecursion}
use Rattle.tm_data.specs.declared.transaction.Page.{Page}
use Rattle.tm_data.specs.declared.transaction.Stamp.{Stamp}
use Rattle.tm_data.specs.declared.row.Row.{Row}
use Rattle.tm_data.specs.declared.image.Child.{Child}
use Rattle.tm_data.specs.declared.image.Image.{Image}
use Rattle.tm_data.specs.declared.image.Body.{Body}
use Rattle.tm_data.specs.declared.image.Body.TheVariants.{Blank, Leaf, Inner}
use Rattle.tm_data.specs.declared.log.Record.{Record}
use Rattle.tm_data.specs.declared.log.Record.TheVariants.{Cut, Format, NodeAdd}
use Rattle.key_fences.specs.Fences.{key_less}
use Rattle.page_model.specs.Tree.{Images, level_of, table_of, low_of, high_of}
use Rattle.page_model.specs.Sound.{AreFences, IsSound}
use Rattle.page_model.specs.Splits.{Halves, leaf_halves, inner_halves, halves, left_rows, is_full, images_on, full_pages, page_above, changed_page, placed, Spot, spot_of, half_for, row_group, split_group, root_over, root_group, splitting, groups_below, splitting_root, groups_of_root, Refusal, TooHigh, if_enough, plan_with, plan_of}
use Rattle.page_model.specs.Tiling.{AreHalves}
use Rattle.wire_fields.specs.Spelling.{IsWithin, IsKey, IsFence}
use Rattle.page_image.specs.Spelling.{IsRow, IsImage}
use Rattle.tree_laws.proofs.FenceLemmas.{strictly_within}
use Rattle.tree_laws.proofs.ListLemmas.{all_front, all_back}
use Rattle.tree_laws.proofs.PathFits.{all_reverse}
use Rattle.tree_laws.proofs.StepFits.{full_parted}
use Rattle.spelling_laws.specs.Spellings.{IsPageRecord}
use Rattle.spelling_laws.proofs.SoundLemmas.{IsStored, IsEntry, body_stored, stored_body, body_length, image_sound, sound_row}

abbrev pub InRange : Page → Type 0
InRange p = IsWithin 1 4294967295 p.0

abbrev pub AllSpelled : List (List Record) → Type 0
AllSpelled groups = AllByRecursion (λ (g : List Record). AllByRecursion IsPageRecord g) groups

-- ---- halves store what the whole does

front_of : {A : Type 0} (P : A → Type 0) (n : ℕ) (xs : List A) → AllByRecursion P xs → AllByRecursion P (take n xs)
front_of P n xs all = all_front P (take n xs) (drop n xs) (let Q : List _ → Type 0 = AllByRecursion P in subst Q (sym (take-append-drop n xs)) all)

back_of : {A : Type 0} (P : A → Type 0) (n : ℕ) (xs : List A) → AllByRecursion P xs → AllByRecursion P (drop n xs)
back_of P n xs all = all_back P (take n xs) (drop n xs) (let Q : List _ → Type 0 = AllByRecursion P in subst Q (sym (take-append-drop n xs)) all)

record AreStored (h : Halves) : Type 0 where
  pub separator : IsKey h.separator
  pub left : IsStored h.left
  pub right : IsStored h.right

halves_are : (a b : Halves) → Some a ≡ Some b → a ≡ b
halves_are a b h = cc

leaf_stored : (table : ℕ) (low high : Option (List ℕ)) (left right : List Row) (h : Halves) → IsWithin 0 65535 table → IsFence low → IsFence high → AllByRecursion IsRow left → AllByRecursion IsRow right
    → leaf_halves table low high left right ≡ Some h → AreStored h
leaf_stored table low high left [] h t l u a b e = absurd (cc)
leaf_stored table low high left (r ∷ rs) h t l u a b e =
    subst AreStored (halves_are (record { separator = r.key; left = Leaf table low (Some r.key) left; right = Leaf table (Some r.key) high (r ∷ rs) }) h e)
    (record { separator = b.0.key; left = (t, l, b.0.key, a); right = (t, b.0.key, u, b) })

inner_stored : (table level : ℕ) (low high : Option (List ℕ)) (first : Page) (left right : List Child) (h : Halves) → IsWithin 0 65535 table → IsFence low → IsFence high → IsWithin 0 4294967295 first.0
    → AllByRecursion IsEntry left → AllByRecursion IsEntry right → inner_halves table level low high first left right ≡ Some h → AreStored h
inner_stored table level low high first left [] h t l u f a b e = absurd (cc)
inner_stored table level low high first left (c ∷ cs) h t l u f a b e =
    subst AreStored (halves_are (record { separator = c.key; left = Inner table level low (Some c.key) first left; right = Inner table level (Some c.key) high c.page cs }) h e)
    (record { separator = b.0.key; left = (t, l, b.0.key, f, a); right = (t, b.0.key, u, b.0.page, b.1) })

halves_stored : (body : Body) (h : Halves) → IsStored body → halves body ≡ Some h → AreStored h
halves_stored Blank h s e = absurd (cc)
halves_stored (Leaf table low high rows) h s e =
    leaf_stored table low high _ _ h s.0 s.1 s.2 (front_of IsRow (left_rows rows) rows s.3) (back_of IsRow (left_rows rows) rows s.3) e
halves_stored (Inner table level low high first entries) h s e =
    inner_stored table level low high first _ _ h s.0 s.1 s.2 s.3 (front_of IsEntry _ entries s.4) (back_of IsEntry _ entries s.4) e

-- ---- what a body says of itself

table_limited : (b : Body) → IsStored b → IsWithin 0 65535 (table_of b)
table_limited Blank s = record { reaches = omega arith; stays = omega arith }
table_limited (Leaf table low high rows) s = s.0
table_limited (Inner table level low high first entries) s = s.0

low_stored : (b : Body) → IsStored b → IsFence (low_of b)
low_stored Blank s = tt
low_stored (Leaf table low high rows) s = s.1
low_stored (Inner table level low high first entries) s = s.1

high_stored : (b : Body) → IsStored b → IsFence (high_of b)
high_stored Blank s = tt
high_stored (Leaf table low high rows) s = s.2
high_stored (Inner table level low high first entries) s = s.2

fences_of : (b : Body) → IsSound b → AreFences (low_of b) (high_of b)
fences_of Blank s = record { order = refl; low_size = omega arith; high_size = omega arith }
fences_of (Leaf table low high rows) s = s.parts.0
fences_of (Inner table level low high first entries) s = s.parts.0

-- ---- records

-- a page that is made of a sound body that is stored
format_spelled : (page : Page) (prev : Stamp) (body : Body) → InRange page → IsSound body → IsStored body → IsPageRecord (Format page prev body)
format_spelled page prev body in_range s t =
    let n = body_length body in
    let size = s.size in
    record { names = refl; page = in_range; sound = (stored_body body s t, omega (arith, n, size)) }

pub all_placed : (P : Record → Type 0) (r : Record) (rs : List Record) → P r → AllByRecursion P rs → AllByRecursion P (placed r rs)
all_placed P r [] h all = (h, tt)
all_placed P r (s ∷ rs) h all = by (nat_lt (changed_page s) (changed_page r)) (all_placed P r rs h all.1)
  where
    by : (b : Bool) → AllByRecursion P (placed r rs) → AllByRecursion P (cond b (s ∷ placed r rs) (r ∷ s ∷ rs))
    by true rest = (all.0, rest)
    by false rest = (h, all)

-- a page that splits
record Splitting (row : Row) (i : Image) : Type 0 where
  pub spelled : IsImage i
  pub full : is_full row i.body ≡ true

record IsSpot (spot : Spot) : Type 0 where
  pub page : InRange spot.page
  pub table : IsWithin 0 65535 spot.table

record Halved (body : Body) (h : Halves) : Type 0 where
  pub stored : AreStored h
  pub parted : AreHalves body h

halved : (row : Row) (i : Image) (h : Halves) → IsRow row → Splitting row i → halves i.body ≡ Some h → Halved i.body h
halved row i h is s e =
    let p = full_parted row i.body (image_sound i s.spelled) (sound_row row is) s.full in
    record { stored = halves_stored i.body h (body_stored i.body s.spelled.body) e; parted = subst (AreHalves i.body) (halves_are p.h h (sym p.has ∙ e)) p.parted }

chosen : (b : Bool) (p q : Page) → InRange p → InRange q → InRange (cond b p q)
chosen true p q h k = h
chosen false p q h k = k

module _ (row : Row) (is_row : IsRow row) where
  row_spelled : (spot : Spot) → IsSpot spot → AllByRecursion IsPageRecord (row_group row spot)
  row_spelled spot s = (record { names = refl; page = s.page; sound = (s.table, is_row) }, tt)

  split_spelled : (spot : Spot) (i : Image) (h : Halves) (page : Page) → IsSpot spot → Splitting row i → Halved i.body h → InRange page → AllByRecursion IsPageRecord (split_group spot (spot_of i) h page)
  split_spelled spot i h page at s d in_range =
      let cut = Cut i.page (record { 0 = i.stamp.0 }) h.separator in
      let format = Format page (record { 0 = 0 }) h.right in
      let add = NodeAdd spot.page (record { 0 = spot.stamp }) h.separator page in
      let wide : IsWithin 0 4294967295 page.0 = record { reaches = omega arith; stays = in_range.stays } in
      all_placed IsPageRecord cut (placed format (add ∷ [])) (record { names = refl; page = s.spelled.page; sound = d.stored.separator })
      (all_placed IsPageRecord format (add ∷ []) (format_spelled page (record { 0 = 0 }) h.right in_range d.parted.sound_right d.stored.right)
      (record { names = refl; page = at.page; sound = (d.stored.separator, wide) }, tt))

  split_by : (spot : Spot) (i : Image) (page : Page) (stamp : ℕ) (following : Spot → List (List Record)) (o : Option Halves) → halves i.body ≡ o → IsSpot spot → Splitting row i → InRange page
      → ((half : Spot) → IsSpot half → AllSpelled (following half)) → AllSpelled (splitting row spot i o page stamp following)
  split_by spot i page stamp following None e at s in_range rest = tt
  split_by spot i page stamp following (Some h) e at s in_range rest =
      let d = halved row i h is_row s e in (
        split_spelled spot i h page at s d in_range,
        rest (record { page = half_for row.key h i.page page; stamp = stamp; table = table_of i.body })
            (record { page = chosen (key_less row.key h.separator) i.page page s.spelled.page in_range; table = table_limited i.body (body_stored i.body s.spelled.body) }),
      )

  below_spelled : (spot : Spot) (images : List Image) (fresh : List Page) (stamp : ℕ) → IsSpot spot → AllByRecursion (Splitting row) images → AllByRecursion InRange fresh → AllSpelled (groups_below row spot images fresh stamp)
  below_spelled spot [] fresh stamp at all pages = (row_spelled spot at, tt)
  below_spelled spot (i ∷ is) [] stamp at all pages = tt
  below_spelled spot (i ∷ is) (page ∷ fresh) stamp at all pages =
      split_by spot i page stamp (λ half. groups_below row half is fresh (stamp + 1)) (halves i.body) refl at all.0 pages.0
      (λ half ok. below_spelled half is fresh (stamp + 1) ok all.1 pages.1)

  -- ---- a root

  over_sound : (i : Image) (h : Halves) (left right : Page) → Splitting row i → Halved i.body h → level_of i.body < 5 → IsSound (root_over i.body h left right)
  over_sound i h left right s d lower =
      let f = fences_of i.body (image_sound i s.spelled) in
      let lo = f.low_size in
      let hi = f.high_size in
      let lim = d.stored.separator.stays in
      record {
        parts = (
          f,
          record { ascend = (tt, tt); within = (strictly_within (low_of i.body) (high_of i.body) h.separator d.parted.inside, tt); each = (lim, tt) },
          omega arith,
          omega (arith, lower),
        );
        size = omega (arith, lo, hi, lim);
      }

  over_stored : (i : Image) (h : Halves) (left right : Page) → Splitting row i → Halved i.body h → InRange left → InRange right → IsStored (root_over i.body h left right)
  over_stored i h left right s d l r =
      let t = body_stored i.body s.spelled.body in (
        table_limited i.body t,
        low_stored i.body t,
        high_stored i.body t,
        record { reaches = omega arith; stays = l.stays },
        (record { key = d.stored.separator; page = record { reaches = omega arith; stays = r.stays } }, tt),
      )

  root_spelled : (i : Image) (h : Halves) (left right : Page) → Splitting row i → Halved i.body h → level_of i.body < 5 → InRange left → InRange right → AllByRecursion IsPageRecord (root_group i h left right)
  root_spelled i h left right s d lower l r =
      let over = Format i.page i.stamp (root_over i.body h left right) in
      let a = Format left (record { 0 = 0 }) h.left in
      let b = Format right (record { 0 = 0 }) h.right in
      all_placed IsPageRecord over (placed a (b ∷ [])) (format_spelled i.page i.stamp (root_over i.body h left right) s.spelled.page (over_sound i h left right s d lower) (over_stored i h left right s d l r))
      (all_placed IsPageRecord a (b ∷ []) (format_spelled left (record { 0 = 0 }) h.left l d.parted.sound_left d.stored.left)
      (format_spelled right (record { 0 = 0 }) h.right r d.parted.sound_right d.stored.right, tt))

  root_by : (i : Image) (left right : Page) (stamp : ℕ) (following : Spot → List (List Record)) (o : Option Halves) → halves i.body ≡ o → Splitting row i → level_of i.body < 5 → InRange left → InRange right
      → ((half : Spot) → IsSpot half → AllSpelled (following half)) → AllSpelled (splitting_root row i o left right stamp following)
  root_by i left right stamp following None e s lower l r rest = tt
  root_by i left right stamp following (Some h) e s lower l r rest =
      let d = halved row i h is_row s e in (
        root_spelled i h left right s d lower l r,
        rest (record { page = half_for row.key h left right; stamp = stamp; table = table_of i.body })
            (record { page = chosen (key_less row.key h.separator) left right l r; table = table_limited i.body (body_stored i.body s.spelled.body) }),
      )

  of_root_spelled : (i : Image) (is : List Image) (fresh : List Page) (stamp : ℕ) → level_of i.body < 5 → AllByRecursion (Splitting row) (i ∷ is) → AllByRecursion InRange fresh → AllSpelled (groups_of_root row i is fresh stamp)
  of_root_spelled i is [] stamp lower all pages = tt
  of_root_spelled i is (left ∷ []) stamp lower all pages = tt
  of_root_spelled i is (left ∷ right ∷ fresh) stamp lower all pages =
      root_by i left right stamp (λ half. groups_below row half is fresh (stamp + 1)) (halves i.body) refl all.0 lower pages.0 pages.1.0
      (λ half ok. below_spelled half is fresh (stamp + 1) ok all.1 pages.1.1)

  -- ---- the plan

  full_by : (i : Image) (is : List Image) (b : Bool) → is_full row i.body ≡ b → IsImage i → AllByRecursion (Splitting row) (full_pages row is) → AllByRecursion (Splitting row) (cond b (i ∷ full_pages row is) [])
  full_by i is true e h rest = (record { spelled = h; full = e }, rest)
  full_by i is false e h rest = tt

  full_split : (up : List Image) → AllByRecursion IsImage up → AllByRecursion (Splitting row) (full_pages row up)
  full_split [] all = tt
  full_split (i ∷ is) all = full_by i is (is_full row i.body) refl all.0 (full_split is all.1)

  above_by : (i a : Image) (is : List Image) (b : Bool) → IsImage i → cond b (page_above row is) (Some i) ≡ Some a → (page_above row is ≡ Some a → IsImage a) → IsImage a
  above_by i a is true h e rest = rest e
  above_by i a is false h e rest = let same : i ≡ a = cc in subst IsImage same h

  above_spelled : (up : List Image) (a : Image) → AllByRecursion IsImage up → page_above row up ≡ Some a → IsImage a
  above_spelled [] a all e = absurd (cc)
  above_spelled (i ∷ is) a all e = above_by i a is (is_full row i.body) all.0 e (above_spelled is a all.1)

  enough_by : (fresh : List Page) (needed : ℕ) (made groups : List (List Record)) (b : Bool) (why : Refusal) → (let e : Result (List (List Record)) Refusal = cond b (Err why) (Ok made) in e ≡ Ok groups) → made ≡ groups
  enough_by fresh needed made groups true why h = cc
  enough_by fresh needed made groups false why h = cc

  height_by : (level : ℕ) (o : Result (List (List Record)) Refusal) (groups : List (List Record)) (b : Bool) → nat_le 5 level ≡ b → cond b (Err TooHigh) o ≡ Ok groups → (level < 5) × (o ≡ Ok groups)
  height_by level o groups true e h = cc
  height_by level o groups false e h = (grind (arith, nat_tests), h)

  plan_by : (fresh : List Page) (first : ℕ) (groups : List (List Record)) (o : Option Image) (down : List Image) → ((a : Image) → o ≡ Some a → IsImage a) → AllByRecursion (Splitting row) down → AllByRecursion InRange fresh
      → plan_with row fresh first o down ≡ Ok groups → AllSpelled groups
  plan_by fresh first groups (Some a) down above all pages made =
      let h = above a refl in
      let e = enough_by fresh (length down) (groups_below row (spot_of a) down fresh first) groups (nat_lt (length fresh) (length down)) _ made in
      subst AllSpelled e (below_spelled (spot_of a) down fresh first (record { page = h.page; table = table_limited a.body (body_stored a.body h.body) }) all pages)
  plan_by fresh first groups None [] above all pages made = let e : [] ≡ groups = cc in subst AllSpelled e tt
  plan_by fresh first groups None (i ∷ is) above all pages made =
      let t = height_by (level_of i.body) (if_enough (length is + 2) fresh (groups_of_root row i is fresh first)) groups (nat_le 5 (level_of i.body)) refl made in
      let e = enough_by fresh (length is + 2) (groups_of_root row i is fresh first) groups (nat_lt (length fresh) (length is + 2)) _ t.1 in
      subst AllSpelled e (of_root_spelled i is fresh first t.0 all pages)

  pub plan_spelled : (images : Images) (path fresh : List Page) (first : ℕ) (groups : List (List Record)) → AllByRecursion IsImage (images_on images path) → AllByRecursion InRange fresh
      → plan_of images path row fresh first ≡ Ok groups → AllSpelled groups
  plan_spelled images path fresh first groups all pages made =
      let up = reverse (images_on images path) in
      let spelled = all_reverse IsImage (images_on images path) all in
      plan_by fresh first groups (page_above row up) (reverse (full_pages row up)) (λ a e. above_spelled up a spelled e)
      (all_reverse (Splitting row) (full_pages row up) (full_split up spelled)) pages made
