-- The groups of a plan fit, each after the one before.
use Rattle.std.proofs.Common.{◌≡◌, ◌≢◌, ℕ, ◌+◌, ◌-◌, ◌≤◌, ◌<◌, Bool, true, false, not, cond, nat_le, nat_lt, List, [], ◌∷◌, ◌++◌, length, reverse, Option, Some, None, Result, Ok, Err, refl, sym, ap, ◌∙◌, subst, arith, inl, inr}
use Rattle.std.proofs.lemmas.Bool.Decides.{nat_tests}
use Rattle.std.proofs.lemmas.List.{reverse-reverse}
use Rattle.std.specs.List.{AllByRecursion}
use Rattle.tm_data.specs.declared.transaction.Page.{Page}
use Rattle.tm_data.specs.declared.row.Row.{Row}
use Rattle.tm_data.specs.declared.image.Image.{Image}
use Rattle.tm_data.specs.declared.log.Record.{Record}
use Rattle.key_fences.specs.Fences.{key_less, is_from, is_below, is_within}
use Rattle.page_model.specs.Tree.{Images, Place, level_of, table_of, low_of, high_of, is_of, may_hold, children, path_of}
use Rattle.page_model.specs.Sound.{IsSoundRow}
use Rattle.page_model.specs.Splits.{Halves, spot_of, half_for, is_full, images_on, full_pages, page_above, root_group, root_over, splitting_root, groups_below, groups_of_root, Refusal, TooHigh, Wanting, if_enough, plan_with, plan_of}
use Rattle.page_model.specs.Tiling.{Has, Tiles, after, after_all, blank_page, SplitsRoot, Fits}
use Rattle.tree_laws.proofs.ListLemmas.{IsIn, all_map, all_both, all_back}
use Rattle.tree_laws.proofs.FenceLemmas.{both, both_true}
use Rattle.tree_laws.proofs.ThereLemmas.{IsThere, IsRoot, of_is, one_image, blank_not_of}
use Rattle.tree_laws.proofs.PageSplit.{made, Changed}
use Rattle.tree_laws.proofs.RootSplit.{stays, stays_same}
use Rattle.tree_laws.proofs.FitLemmas.{fits_tiles, root_change, root_facts, root_rows}
use Rattle.tree_laws.proofs.ChainLemmas.{Chain, in_left, in_right}
use Rattle.tree_laws.proofs.StepFits.{Parted, full_parted}
use Rattle.tree_laws.proofs.PlanFits.{Both, set_after, Good, all_fit}
use Rattle.tree_laws.specs.Claims.{Differ, SameRows}
use Rattle.tree_laws.proofs.PathFits.{way, Full, above_is, none_above, all_reverse, turned_back}

-- ---- a root that splits, with all pages below it

pub record Ready (images : Images) (table stamp : ℕ) (row : Row) (i : Image) (is : List Image) (fresh : List Page) : Type 0 where
  pub tiles : Tiles images table
  pub here : images table ≡ Some i
  pub older : i.stamp.0 < stamp
  pub of : is_of table i.body ≡ true
  pub low : low_of i.body ≡ None
  pub high : high_of i.body ≡ None
  pub lower : level_of i.body < 5
  pub fills : is_full row i.body ≡ true
  pub chain : Chain images table row.key i is
  pub full : AllByRecursion (λ (m : Image). is_full row m.body ≡ true) is
  pub old : AllByRecursion (λ (m : Image). m.stamp.0 < stamp) is
  pub blank : AllByRecursion (λ (f : Page). images f.0 ≡ Some (blank_page f)) fresh
  pub differ : Differ fresh
  pub enough : length is + 2 ≤ length fresh
  pub sound : IsSoundRow row

module _ (images : Images) (table stamp : ℕ) (row : Row) (i : Image) (is : List Image) (l r : Page) (fs : List Page)
    (g : Ready images table stamp row i is (l ∷ r ∷ fs)) where
  has_i : Has images table table i
  has_i = record { held = g.here; of = g.of }

  own : i.page.0 ≡ table
  own = g.tiles.own table i has_i

  pub parts : Parted row i.body
  parts = full_parted row i.body (g.tiles.sound table i has_i) g.sound g.fills

  abbrev h : Halves
  h = parts.h

  abbrev at : List ℕ
  at = parts.h.separator

  abbrev group : List Record
  group = root_group i h l r

  splits : SplitsRoot images stamp group table i h l r
  splits = record {
    before = record { present = ap images own ∙ g.here; older = g.older };
    blank_left = g.blank.0;
    blank_right = g.blank.1.0;
    differ = g.differ.0.0;
    of = g.of;
    is_root = own;
    low = g.low;
    high = g.high;
    lower = g.lower;
    parted = parts.parted;
    is = refl;
  }

  abbrev T' : Images
  T' = after images group stamp

  fits : Fits images stamp group table
  fits = inr (inr (inl (i, h, l, r, splits)))

  new_tiles : Tiles T' table
  new_tiles = fits_tiles images stamp group table g.tiles fits

  change : Changed images T' l.0 r.0 table (made (blank_page l) h.left stamp) (made (blank_page r) h.right stamp) (made i (root_over i.body h l r) stamp)
  change = root_change images stamp group table i h l r g.tiles splits

  deeper : (level : ℕ) (pl : Place) → level ≤ level_of i.body → (t : IsThere images table level pl) → (t' : IsThere T' table level pl) × (t'.image ≡ t.image)
  deeper level pl le t =
      let facts = root_facts images stamp group table i h l r g.tiles splits in (
        stays images T' table l.0 r.0 stamp i (blank_page l) (blank_page r) h (root_over i.body h l r) facts change level pl le t,
        stays_same images T' table l.0 r.0 stamp i (blank_page l) (blank_page r) h (root_over i.body h l r) facts change level pl le t,
      )

  chain_stays : (k : Image) (ms : List Image) → level_of k.body ≤ level_of i.body → Chain images table row.key k ms → Chain T' table row.key k ms
  chain_stays k [] le c = c
  chain_stays k (m ∷ ms) le c =
      let d = deeper (level_of k.body) c.0.place le c.0.there in
      let b = c.0.there.below in
      let e = ap (λ (x : Image). level_of x.body) c.0.is in
      (record { place = c.0.place; among = c.0.among; holds = c.0.holds; there = d.0; is = d.1 ∙ c.0.is }, chain_stays m ms (omega (arith, b, e, le)) c.1)

  chain_half : (k : Image) → level_of k.body ≡ level_of i.body → ((pl : Place) → IsIn pl (children i.body) → is_within pl.low pl.high row.key ≡ true → IsIn pl (children k.body)) → (ms : List Image) → Chain images table row.key i ms → Chain T' table row.key k ms
  chain_half k lev goes [] c = lev ∙ c
  chain_half k lev goes (m ∷ ms) c =
      let d = deeper (level_of i.body) c.0.place (omega arith) c.0.there in
      let b = c.0.there.below in
      let e = ap (λ (x : Image). level_of x.body) c.0.is in (
        record {
          place = c.0.place;
          among = goes c.0.place c.0.among c.0.holds;
          holds = c.0.holds;
          there = record { image = d.0.image; at = d.0.at; of = d.0.of; low = d.0.low; high = d.0.high; below = d.0.below ∙ sym lev };
          is = d.1 ∙ c.0.is;
        },
        chain_stays m ms (omega (arith, b, e)) c.1,
      )

  still_blank : AllByRecursion (λ (p : Page). T' p.0 ≡ Some (blank_page p)) fs
  still_blank =
      all_map (λ p. ((images p.0 ≡ Some (blank_page p)) × (l.0 ≢ p.0)) × (r.0 ≢ p.0)) (λ p. T' p.0 ≡ Some (blank_page p)) fs
      (λ p t. change.others p.0
      (λ e. t.0.1 (sym e))
      (λ e. t.1 (sym e))
      (λ e. blank_not_of table i (ap (λ (m : Image). m.body) (one_image images table p.0 i (blank_page p) (sym e) g.here t.0.0)) g.of) ∙ t.0.0)
      (all_both (λ p. (images p.0 ≡ Some (blank_page p)) × (l.0 ≢ p.0)) (λ (p : Page). r.0 ≢ p.0) fs
      (all_both (λ (p : Page). images p.0 ≡ Some (blank_page p)) (λ (p : Page). l.0 ≢ p.0) fs g.blank.1.1 g.differ.0.1) g.differ.1.0)

  older_all : AllByRecursion (λ (m : Image). m.stamp.0 < stamp + 1) is
  older_all = all_map (λ (m : Image). m.stamp.0 < stamp) (λ (m : Image). m.stamp.0 < stamp + 1) is (λ m lt. omega (arith, lt)) g.old

  left_of : is_of table h.left ≡ true
  left_of = subst (λ t. is_of t h.left ≡ true) (of_is table i.body g.of) parts.parted.table_left

  right_of : is_of table h.right ≡ true
  right_of = subst (λ t. is_of t h.right ≡ true) (of_is table i.body g.of) parts.parted.table_right

  one_more : stamp < stamp + 1
  one_more = omega arith

  fewer : length is ≤ length fs
  fewer = let e = g.enough in omega (arith, e)

  i_holds : may_hold i.body row.key ≡ true
  i_holds = ap (λ o. is_within o (high_of i.body) row.key) g.low ∙ ap (λ o. is_within None o row.key) g.high

  i_within : (is_from (low_of i.body) row.key ≡ true) × (is_below (high_of i.body) row.key ≡ true)
  i_within = both (is_from (low_of i.body) row.key) (is_below (high_of i.body) row.key) i_holds

  good_left : key_less row.key at ≡ true → Good T' table (stamp + 1) row (made (blank_page l) h.left stamp) is fs
  good_left less = record {
    tiles = new_tiles;
    here = change.at_page;
    older = one_more;
    of = left_of;
    holds = ap (λ o. is_within o (high_of h.left) row.key) parts.parted.low_left ∙ ap (λ o. is_within (low_of i.body) o row.key) parts.parted.high_left ∙ both_true (is_from (low_of i.body) row.key) (key_less row.key at) i_within.0 less;
    room = parts.room_left;
    chain = chain_half (made (blank_page l) h.left stamp) parts.parted.level_left (λ pl a w. in_left i.body h pl row.key parts.parted a w less) is g.chain;
    full = g.full;
    old = older_all;
    blank = still_blank;
    differ = g.differ.1.1;
    enough = fewer;
    sound = g.sound;
  }

  good_right : key_less row.key at ≡ false → Good T' table (stamp + 1) row (made (blank_page r) h.right stamp) is fs
  good_right more = record {
    tiles = new_tiles;
    here = change.at_fresh;
    older = one_more;
    of = right_of;
    holds = ap (λ o. is_within o (high_of h.right) row.key) parts.parted.low_right ∙ ap (λ o. is_within (Some at) o row.key) parts.parted.high_right ∙ both_true (not (key_less row.key at)) (is_below (high_of i.body) row.key) (ap not more) i_within.1;
    room = parts.room_right;
    chain = chain_half (made (blank_page r) h.right stamp) parts.parted.level_right (λ pl a w. in_right i.body h pl row.key parts.parted a w more) is g.chain;
    full = g.full;
    old = older_all;
    blank = still_blank;
    differ = g.differ.1.1;
    enough = fewer;
    sound = g.sound;
  }

  abbrev Follow : List (List Record) → Type 0
  Follow gs = Both images stamp gs table row

  same_rows : SameRows images T' table
  same_rows = root_rows images stamp group table i h l r g.tiles splits

  pub root_follow : (b : Bool) → key_less row.key at ≡ b → Follow (groups_of_root row i is (l ∷ r ∷ fs) stamp)
  root_follow true less =
      let k = made (blank_page l) h.left stamp in
      let t : table_of i.body ≡ table_of h.left = of_is table i.body g.of ∙ sym (of_is table h.left left_of) in
      let p : half_for row.key h l r ≡ l = ap (λ b. cond b l r) less in
      let q : groups_of_root row i is (l ∷ r ∷ fs) stamp ≡ group ∷ groups_below row (spot_of k) is fs (stamp + 1) =
      ap (λ o. splitting_root row i o l r stamp (λ half. groups_below row half is fs (stamp + 1))) parts.has ∙ (λ m. group ∷ groups_below row (record { page = p m; stamp = stamp; table = t m }) is fs (stamp + 1)) in
      let d = all_fit T' table (stamp + 1) row k is fs (good_left less) in
      subst Follow (sym q) ((fits, d.0), set_after images T' (after_all T' (groups_below row (spot_of k) is fs (stamp + 1)) (stamp + 1)) table row same_rows d.1)
  root_follow false more =
      let k = made (blank_page r) h.right stamp in
      let t : table_of i.body ≡ table_of h.right = of_is table i.body g.of ∙ sym (of_is table h.right right_of) in
      let p : half_for row.key h l r ≡ r = ap (λ b. cond b l r) more in
      let q : groups_of_root row i is (l ∷ r ∷ fs) stamp ≡ group ∷ groups_below row (spot_of k) is fs (stamp + 1) =
      ap (λ o. splitting_root row i o l r stamp (λ half. groups_below row half is fs (stamp + 1))) parts.has ∙ (λ m. group ∷ groups_below row (record { page = p m; stamp = stamp; table = t m }) is fs (stamp + 1)) in
      let d = all_fit T' table (stamp + 1) row k is fs (good_right more) in
      subst Follow (sym q) ((fits, d.0), set_after images T' (after_all T' (groups_below row (spot_of k) is fs (stamp + 1)) (stamp + 1)) table row same_rows d.1)

pub root_fit : (images : Images) (table stamp : ℕ) (row : Row) (i : Image) (is : List Image) (fresh : List Page) → Ready images table stamp row i is fresh → Both images stamp (groups_of_root row i is fresh stamp) table row
root_fit images table stamp row i is [] g = let e = g.enough in absurd (omega (arith, e))
root_fit images table stamp row i is (l ∷ []) g = let e = g.enough in absurd (omega (arith, e))
root_fit images table stamp row i is (l ∷ r ∷ fs) g =
    root_follow images table stamp row i is l r fs g (key_less row.key (parts images table stamp row i is l r fs g).h.separator) refl

-- ---- the images of a path

pub record At (images : Images) (table stamp : ℕ) (key : List ℕ) (k : Image) : Type 0 where
  pub here : images k.page.0 ≡ Some k
  pub of : is_of table k.body ≡ true
  pub holds : may_hold k.body key ≡ true
  pub older : k.stamp.0 < stamp

abbrev Along : Images → ℕ → ℕ → List ℕ → List Image → Type 0
Along images table stamp key [] = Unit {0}
Along images table stamp key (k ∷ ks) = At images table stamp key k × Chain images table key k ks × Along images table stamp key ks

along : (images : Images) (table stamp : ℕ) (key : List ℕ) → Tiles images table → (k : Image) (ks : List Image) → At images table stamp key k → Chain images table key k ks → AllByRecursion (λ (m : Image). m.stamp.0 < stamp) ks → Along images table stamp key (k ∷ ks)
along images table stamp key tiles k [] at c old = (at, c, tt)
along images table stamp key tiles k (m ∷ ms) at c old =
    let s = c.0 in
    let there : images s.place.page.0 ≡ Some m = s.there.at ∙ ap (λ (x : Image). Some x) s.is in
    let of : is_of table m.body ≡ true = ap (λ (x : Image). is_of table x.body) (sym s.is) ∙ s.there.of in
    let own : m.page.0 ≡ s.place.page.0 = tiles.own s.place.page.0 m (record { held = there; of = of }) in
    let lo : low_of m.body ≡ s.place.low = ap (λ (x : Image). low_of x.body) (sym s.is) ∙ s.there.low in
    let hi : high_of m.body ≡ s.place.high = ap (λ (x : Image). high_of x.body) (sym s.is) ∙ s.there.high in
    let next : At images table stamp key m = record {
      here = ap images own ∙ there;
      of = of;
      holds = ap (λ o. is_within o (high_of m.body) key) lo ∙ ap (λ o. is_within s.place.low o key) hi ∙ s.holds;
      older = old.0;
    } in
    (at, c, along images table stamp key tiles m ms next c.1 old.1)

along_back : (images : Images) (table stamp : ℕ) (key : List ℕ) (xs ys : List Image) → Along images table stamp key (xs ++ ys) → Along images table stamp key ys
along_back images table stamp key [] ys a = a
along_back images table stamp key (x ∷ xs) ys a = along_back images table stamp key xs ys a.2

-- ---- the plan

enough_by : (needed : ℕ) (fresh : List Page) (made groups : List (List Record)) (b : Bool) → nat_lt (length fresh) needed ≡ b → (let e : Result (List (List Record)) Refusal = cond b (Err (Wanting (needed - length fresh))) (Ok made) in e ≡ Ok groups) → (needed ≤ length fresh) × (made ≡ groups)
enough_by needed fresh made groups true e h = cc
enough_by needed fresh made groups false e h = (grind (arith, nat_tests), cc)

is_enough : (needed : ℕ) (fresh : List Page) (made groups : List (List Record)) → if_enough needed fresh made ≡ Ok groups → (needed ≤ length fresh) × (made ≡ groups)
is_enough needed fresh made groups h = enough_by needed fresh made groups (nat_lt (length fresh) needed) refl h

height_by : (level : ℕ) (o : Result (List (List Record)) Refusal) (groups : List (List Record)) (b : Bool) → nat_le 5 level ≡ b → cond b (Err TooHigh) o ≡ Ok groups → (level < 5) × (o ≡ Ok groups)
height_by level o groups true e h = cc
height_by level o groups false e h = (grind (arith, nat_tests), h)

module _ (images : Images) (table first : ℕ) (row : Row) (path fresh : List Page) (groups : List (List Record))
    (tiles : Tiles images table) (found : path_of images table row.key ≡ Ok path) (sound : IsSoundRow row)
    (blank : AllByRecursion (λ (f : Page). images f.0 ≡ Some (blank_page f)) fresh) (differ : Differ fresh)
    (old : AllByRecursion (λ (m : Image). m.stamp.0 < first) (images_on images path)) where
  abbrev line : List Image
  line = images_on images path

  abbrev up : List Image
  up = reverse line

  abbrev Older : Image → Type 0
  Older m = m.stamp.0 < first

  root_is_there : (r : IsRoot images table) × (is : List Image) × (line ≡ r.image ∷ is) × Chain images table row.key r.image is
  root_is_there = way images table row.key tiles path found

  abbrev root_image : Image
  root_image = root_is_there.0.image

  abbrev rest : List Image
  rest = root_is_there.1

  old_line : AllByRecursion Older (root_image ∷ rest)
  old_line = subst (λ (xs : List Image). AllByRecursion Older xs) root_is_there.2 old

  root_own : root_image.page.0 ≡ table
  root_own = tiles.own table root_image root_is_there.0.has

  along_line : Along images table first row.key line
  along_line =
      let r = root_is_there.0 in
      let at : At images table first row.key root_image = record {
        here = ap images root_own ∙ r.has.held;
        of = r.has.of;
        holds = ap (λ o. is_within o (high_of root_image.body) row.key) r.low ∙ ap (λ o. is_within None o row.key) r.high;
        older = old_line.0;
      } in
      subst (λ (xs : List Image). Along images table first row.key xs) (sym root_is_there.2) (along images table first row.key tiles root_image rest at root_is_there.3 old_line.1)

  abbrev Done : Type 0
  Done = Both images first groups table row

  below_case : (a : Image) → page_above row up ≡ Some a → if_enough (length (reverse (full_pages row up))) fresh (groups_below row (spot_of a) (reverse (full_pages row up)) fresh first) ≡ Ok groups → Done
  below_case a is planned =
      let v = above_is row up a is in
      let down = reverse (full_pages row up) in
      let split : line ≡ reverse v.rest ++ a ∷ down = turned_back line up (full_pages row up) v.rest a refl v.is in
      let here = along_back images table first row.key (reverse v.rest) (a ∷ down) (subst (λ (xs : List Image). Along images table first row.key xs) split along_line) in
      let older = all_back Older (reverse v.rest) (a ∷ down) (subst (λ (xs : List Image). AllByRecursion Older xs) split old) in
      let e = is_enough (length down) fresh (groups_below row (spot_of a) down fresh first) groups planned in
      let good : Good images table first row a down fresh = record {
        tiles = tiles;
        here = here.0.here;
        older = here.0.older;
        of = here.0.of;
        holds = here.0.holds;
        room = v.room;
        chain = here.1;
        full = all_reverse (Full row) (full_pages row up) v.full;
        old = older.1;
        blank = blank;
        differ = differ;
        enough = e.0;
        sound = sound;
      } in
      subst (λ (gs : List (List Record)). Both images first gs table row) e.1 (all_fit images table first row a down fresh good)

  root_case : page_above row up ≡ None → plan_with row fresh first None (reverse (full_pages row up)) ≡ Ok groups → Done
  root_case is planned =
      let v = none_above row up is in
      let all : reverse (full_pages row up) ≡ root_image ∷ rest = ap reverse v.0 ∙ reverse-reverse line ∙ root_is_there.2 in
      let full = subst (λ (xs : List Image). AllByRecursion (Full row) xs) (reverse-reverse line ∙ root_is_there.2) (all_reverse (Full row) up v.1) in
      let p : plan_with row fresh first None (root_image ∷ rest) ≡ Ok groups = ap (plan_with row fresh first None) (sym all) ∙ planned in
      let made = groups_of_root row root_image rest fresh first in
      let t = height_by (level_of root_image.body) (if_enough (length rest + 2) fresh made) groups (nat_le 5 (level_of root_image.body)) refl p in
      let e = is_enough (length rest + 2) fresh made groups t.1 in
      let r = root_is_there.0 in
      let ready : Ready images table first row root_image rest fresh = record {
        tiles = tiles;
        here = r.has.held;
        older = old_line.0;
        of = r.has.of;
        low = r.low;
        high = r.high;
        lower = t.0;
        fills = full.0;
        chain = root_is_there.3;
        full = full.1;
        old = old_line.1;
        blank = blank;
        differ = differ;
        enough = e.0;
        sound = sound;
      } in
      subst (λ (gs : List (List Record)). Both images first gs table row) e.1 (root_fit images table first row root_image rest fresh ready)

  plan_by : (o : Option Image) → page_above row up ≡ o → plan_with row fresh first o (reverse (full_pages row up)) ≡ Ok groups → Done
  plan_by None is planned = root_case is planned
  plan_by (Some a) is planned = below_case a is planned

  pub plan_fits : plan_of images path row fresh first ≡ Ok groups → Both images first groups table row
  plan_fits planned = plan_by (page_above row up) refl planned
