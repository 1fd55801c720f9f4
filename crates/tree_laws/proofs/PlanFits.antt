-- The groups of a plan below a page that has room fit, each after the one before.
use Rattle.std.proofs.Common.{◌≡◌, ◌≢◌, ℕ, ◌+◌, ◌≤◌, ◌<◌, Bool, true, false, not, cond, List, [], ◌∷◌, length, Some, None, refl, sym, ap, ◌∙◌, subst, arith, inl, inr}
use Rattle.std.specs.Prelude.{IsSome}
use Rattle.std.specs.List.{AllByRecursion}
use Rattle.tm_data.specs.declared.transaction.Page.{Page}
use Rattle.tm_data.specs.declared.row.Row.{Row}
use Rattle.tm_data.specs.declared.image.Child.{Child}
use Rattle.tm_data.specs.declared.image.Image.{Image}
use Rattle.tm_data.specs.declared.image.Body.{Body}
use Rattle.tm_data.specs.declared.image.Body.TheVariants.{Leaf, Inner}
use Rattle.tm_data.specs.declared.log.Record.{Record}
use Rattle.tm_base.specs.Sizes.{size_with}
use Rattle.key_fences.specs.Fences.{key_less, is_from, is_above, is_below, is_within, leave_room}
use Rattle.page_model.specs.Effects.{row_set, child_added, entry_added, with_entries}
use Rattle.page_model.specs.Tree.{Images, Place, level_of, table_of, low_of, high_of, is_of, may_hold, children, child_for, there, one_below}
use Rattle.page_model.specs.Sound.{IsSound, IsSoundRow, child_key}
use Rattle.page_model.specs.Splits.{Halves, spot_of, half_for, is_full, row_group, split_group, splitting, groups_below}
use Rattle.page_model.specs.Tiling.{Has, Tiles, after, after_all, blank_page, PutsRow, Splits, Fits, FitInTurn}
use Rattle.page_model.proofs.KeyLemmas.{not_less_itself}
use Rattle.tree_laws.specs.Claims.{Differ, SameRows, SetsRow}
use Rattle.tree_laws.proofs.ListLemmas.{IsIn, all_map, all_both}
use Rattle.tree_laws.proofs.FenceLemmas.{both, both_true, strictly_within}
use Rattle.tree_laws.proofs.PlaceLemmas.{IsInside, children_inside}
use Rattle.tree_laws.proofs.ThereLemmas.{IsThere, there_from, of_is, one_image, blank_not_of}
use Rattle.tree_laws.proofs.GroupLemmas.{fits_is, separator_limited}
use Rattle.tree_laws.proofs.PageSplit.{made, Changed, deeper_stays, deeper_same}
use Rattle.tree_laws.proofs.FitLemmas.{fits_tiles, split_change, split_facts, grows, put_sets, split_rows}
use Rattle.tree_laws.proofs.ChainLemmas.{in_all, Step, Chain, leads_to, in_left, in_right, new_entry}
use Rattle.tree_laws.proofs.StepFits.{Parted, full_parted, leaf_is, InnerIs, inner_is, fences_order, below_own, all_members, keys_apart, sum_added, fits_more, fits_row, page_is}

-- groups fit in turn, and set the row
abbrev pub Both : Images → ℕ → List (List Record) → ℕ → Row → Type 0
Both images stamp groups table row = FitInTurn images stamp groups table × SetsRow images (after_all images groups stamp) table row

pub set_after : (a b c : Images) (table : ℕ) (row : Row) → SameRows a b table → SetsRow b c table row → SetsRow a c table row
set_after a b c table row same s = record {
  there = s.there;
  alone = s.alone;
  others = λ o d. ((λ x. (s.others o d).0 ((same o).0 x)), (λ x. (same o).1 ((s.others o d).1 x)));
}

-- Pages that all split, below a page that has room and may have the row's key, with fresh pages for them.
pub record Good (images : Images) (table stamp : ℕ) (row : Row) (j : Image) (is : List Image) (fresh : List Page) : Type 0 where
  pub tiles : Tiles images table
  pub here : images j.page.0 ≡ Some j
  pub older : j.stamp.0 < stamp
  pub of : is_of table j.body ≡ true
  pub holds : may_hold j.body row.key ≡ true
  pub room : is_full row j.body ≡ false
  pub chain : Chain images table row.key j is
  pub full : AllByRecursion (λ (i : Image). is_full row i.body ≡ true) is
  pub old : AllByRecursion (λ (i : Image). i.stamp.0 < stamp) is
  pub blank : AllByRecursion (λ (f : Page). images f.0 ≡ Some (blank_page f)) fresh
  pub differ : Differ fresh
  pub enough : length is ≤ length fresh
  pub sound : IsSoundRow row

-- ---- the row itself

pub ends : (images : Images) (table stamp : ℕ) (row : Row) (j : Image) (fresh : List Page) → Good images table stamp row j [] fresh → PutsRow images stamp (row_group row (spot_of j)) table row j
ends images table stamp row j fresh g =
    let l = leaf_is table j.body g.of (g.tiles.sound j.page.0 j (record { held = g.here; of = g.of })) g.chain in
    record {
      low = l.low;
      high = l.high;
      rows = l.rows;
      before = record { present = g.here; older = g.older };
      body = l.is;
      within = ap (λ (b : Body). may_hold b row.key) (sym l.is) ∙ g.holds;
      fits = fits_row (size_with (Leaf table l.low l.high (row_set l.rows row))) (ap (is_full row) (sym l.is) ∙ g.room);
      sound = g.sound;
      is = refl;
    }

-- ---- one split

module _ (images : Images) (table stamp : ℕ) (row : Row) (j i : Image) (is : List Image) (f : Page) (fs : List Page)
    (g : Good images table stamp row j (i ∷ is) (f ∷ fs)) where
  abbrev step : Step images table row.key j i
  step = g.chain.0

  abbrev place : Place
  place = step.place

  at_place : images place.page.0 ≡ Some i
  at_place = step.there.at ∙ ap (λ (m : Image). Some m) step.is

  i_of : is_of table i.body ≡ true
  i_of = ap (λ (m : Image). is_of table m.body) (sym step.is) ∙ step.there.of

  has_place : Has images table place.page.0 i
  has_place = record { held = at_place; of = i_of }

  own : i.page.0 ≡ place.page.0
  own = g.tiles.own place.page.0 i has_place

  i_here : images i.page.0 ≡ Some i
  i_here = ap images own ∙ at_place

  has_i : Has images table i.page.0 i
  has_i = record { held = i_here; of = i_of }

  has_j : Has images table j.page.0 j
  has_j = record { held = g.here; of = g.of }

  i_low : low_of i.body ≡ place.low
  i_low = ap (λ (m : Image). low_of m.body) (sym step.is) ∙ step.there.low

  i_high : high_of i.body ≡ place.high
  i_high = ap (λ (m : Image). high_of m.body) (sym step.is) ∙ step.there.high

  i_level : level_of i.body + 1 ≡ level_of j.body
  i_level = ap (λ (m : Image). level_of m.body + 1) (sym step.is) ∙ step.there.below

  i_holds : may_hold i.body row.key ≡ true
  i_holds = ap (λ o. is_within o (high_of i.body) row.key) i_low ∙ ap (λ o. is_within place.low o row.key) i_high ∙ step.holds

  pub parts : Parted row i.body
  parts = full_parted row i.body (g.tiles.sound i.page.0 i has_i) g.sound g.full.0

  abbrev h : Halves
  h = parts.h

  abbrev at : List ℕ
  at = parts.h.separator

  inner : InnerIs table j.body
  inner = inner_is table j.body place g.of step.among

  abbrev whole : Body
  whole = Inner table inner.level inner.low inner.high inner.first inner.entries

  j_sound : IsSound whole
  j_sound = subst IsSound inner.is (g.tiles.sound j.page.0 j has_j)

  among : IsIn place (children whole)
  among = subst (λ (b : Body). IsIn place (children b)) inner.is step.among

  at_holds : is_within place.low place.high at ≡ true
  at_holds = ap (λ o. is_within o place.high at) (sym i_low) ∙ ap (λ o. is_within (low_of i.body) o at) (sym i_high) ∙ strictly_within (low_of i.body) (high_of i.body) at parts.parted.inside

  leads : child_for at inner.low inner.high inner.first inner.entries ≡ place
  leads = leads_to at table inner.level inner.low inner.high inner.first inner.entries place j_sound.parts.1.ascend among at_holds

  -- no place begins at the separator
  no_start : (p : Place) → IsIn p (children whole) × IsThere images table (level_of j.body) p → p.low ≢ Some at
  no_start p t e =
      let m = t.1.image in
      let sound = g.tiles.sound p.page.0 m (record { held = t.1.at; of = t.1.of }) in
      let lo : low_of m.body ≡ Some at = t.1.low ∙ e in
      let order : leave_room (Some at) p.high ≡ true = ap (λ o. leave_room o p.high) (sym lo) ∙ ap (λ o. leave_room (low_of m.body) o) (sym t.1.high) ∙ fences_order m.body sound in
      let n = not_less_itself at in
      let from : is_from (Some at) at ≡ true = ap not n in
      let holds : is_within p.low p.high at ≡ true = ap (λ o. is_within o p.high at) e ∙ both_true (is_from (Some at) at) (is_below p.high at) from (below_own p.high at order) in
      let same : place ≡ p = sym leads ∙ leads_to at table inner.level inner.low inner.high inner.first inner.entries p j_sound.parts.1.ascend t.0 holds in
      let above : is_above (low_of i.body) at ≡ true = (both (is_above (low_of i.body) at) (is_below (high_of i.body) at) parts.parted.inside).0 in
      let q : key_less at at ≡ true = ap (λ o. is_above o at) (sym (i_low ∙ ap (λ (z : Place). z.low) same ∙ e)) ∙ above in
      cc

  all_there : AllByRecursion (IsThere images table (level_of j.body)) (children whole)
  all_there =
      let old = all_map (λ pl. IsSome (one_below (level_of j.body) (there images table pl))) (IsThere images table (level_of j.body)) (children j.body) (there_from images table (level_of j.body)) (g.tiles.children j.page.0 j has_j) in
      subst (λ (b : Body). AllByRecursion (IsThere images table (level_of j.body)) (children b)) inner.is old

  no_key : AllByRecursion (λ c. child_key c ≢ at) inner.entries
  no_key =
      let each = all_map (λ p. IsIn p (children whole) × IsThere images table (level_of j.body) p) (λ (p : Place). p.low ≢ Some at) (children whole) no_start
      (all_both (λ p. IsIn p (children whole)) (IsThere images table (level_of j.body)) (children whole) (all_members (children whole)) all_there) in
      keys_apart at inner.high inner.entries each.1

  abbrev child : Child
  child = record { key = at; page = f }

  made_entry : (es : List Child) × (entry_added inner.entries child ≡ Some es)
  made_entry = new_entry inner.entries child no_key

  abbrev new : Body
  new = Inner table inner.level inner.low inner.high inner.first made_entry.0

  in_parent : is_within inner.low inner.high at ≡ true
  in_parent = in_all (IsInside inner.low inner.high) (children whole) place (children_inside whole j_sound.parts) among at at_holds

  limited : length at ≤ 64
  limited = separator_limited h.right at parts.parted.sound_right parts.parted.low_right

  new_size : size_with new ≤ 8192
  new_size =
      let room = fits_more (size_with whole) (ap (is_full row) (sym inner.is) ∙ g.room) in
      let sum = sum_added inner.entries made_entry.0 child made_entry.1 in
      let lim = limited in
      omega (arith, room, sum, lim)

  added : child_added j.body child ≡ Some new
  added =
      ap (λ (b : Body). child_added b child) inner.is
      ∙ ap (λ b. cond b (with_entries table inner.level inner.low inner.high inner.first (entry_added inner.entries child)) None) in_parent
      ∙ ap (λ o. with_entries table inner.level inner.low inner.high inner.first o) made_entry.1 ∙ fits_is new new_size

  abbrev group : List Record
  group = split_group (spot_of j) (spot_of i) h f

  pub splits : Splits images stamp group table i j h f
  splits = record {
    level = inner.level;
    low = inner.low;
    high = inner.high;
    first = inner.first;
    entries = inner.entries;
    new = new;
    before = record { present = i_here; older = g.old.0 };
    before_parent = record { present = g.here; older = g.older };
    blank = g.blank.0;
    of = i_of;
    above = inner.is;
    level_is = i_level ∙ ap level_of inner.is;
    leads = page_is (child_for at inner.low inner.high inner.first inner.entries).page i.page (ap (λ (z : Place). z.page.0) leads ∙ sym own);
    parted = parts.parted;
    cut = parts.cut;
    added = added;
    is = refl;
  }

  -- ---- what is there then

  abbrev T' : Images
  T' = after images group stamp

  fits : Fits images stamp group table
  fits = inr (inl (i, j, h, f, splits))

  new_tiles : Tiles T' table
  new_tiles = fits_tiles images stamp group table g.tiles fits

  change : Changed images T' i.page.0 f.0 j.page.0 (made i h.left stamp) (made (blank_page f) h.right stamp) (made j splits.new stamp)
  change = split_change images stamp group table i j h f g.tiles splits

  deeper : (level : ℕ) (pl : Place) → level ≤ level_of i.body → (t : IsThere images table level pl) → (t' : IsThere T' table level pl) × (t'.image ≡ t.image)
  deeper level pl le t =
      let p = child_for h.separator splits.low splits.high splits.first splits.entries in
      let w = grows images stamp group table i j h f g.tiles splits in
      let facts = split_facts images stamp group table i j h f g.tiles splits in (
        deeper_stays images T' table i.page.0 f.0 j.page.0 stamp i j (blank_page f) h splits.new p w.before w.after facts change level pl le t,
        deeper_same images T' table i.page.0 f.0 j.page.0 stamp i j (blank_page f) h splits.new p w.before w.after facts change level pl le t,
      )

  chain_stays : (k : Image) (ms : List Image) → level_of k.body ≤ level_of i.body → Chain images table row.key k ms → Chain T' table row.key k ms
  chain_stays k [] le c = c
  chain_stays k (m ∷ ms) le c =
      let d = deeper (level_of k.body) c.0.place le c.0.there in
      let b = c.0.there.below in
      let e = ap (λ (x : Image). level_of x.body) c.0.is in
      (record { place = c.0.place; among = c.0.among; holds = c.0.holds; there = d.0; is = d.1 ∙ c.0.is }, chain_stays m ms (omega (arith, b, e, le)) c.1)

  chain_half : (k : Image) → level_of k.body ≡ level_of i.body → ((pl : Place) → IsIn pl (children i.body) → is_within pl.low pl.high row.key ≡ true → IsIn pl (children k.body)) → (ms : List Image) → Chain images table row.key i ms → Chain T' table row.key k ms
  chain_half k lev goes [] c = lev ∙ c
  chain_half k lev goes (m ∷ ms) c =
      let d = deeper (level_of i.body) c.0.place (omega arith) c.0.there in
      let b = c.0.there.below in
      let e = ap (λ (x : Image). level_of x.body) c.0.is in (
        record {
          place = c.0.place;
          among = goes c.0.place c.0.among c.0.holds;
          holds = c.0.holds;
          there = record { image = d.0.image; at = d.0.at; of = d.0.of; low = d.0.low; high = d.0.high; below = d.0.below ∙ sym lev };
          is = d.1 ∙ c.0.is;
        },
        chain_stays m ms (omega (arith, b, e)) c.1,
      )

  still_blank : AllByRecursion (λ (p : Page). T' p.0 ≡ Some (blank_page p)) fs
  still_blank =
      all_map (λ p. (images p.0 ≡ Some (blank_page p)) × (f.0 ≢ p.0)) (λ p. T' p.0 ≡ Some (blank_page p)) fs
      (λ p t. change.others p.0
      (λ e. blank_not_of table i (ap (λ (m : Image). m.body) (one_image images i.page.0 p.0 i (blank_page p) (sym e) i_here t.0)) i_of)
      (λ e. t.1 (sym e))
      (λ e. blank_not_of table j (ap (λ (m : Image). m.body) (one_image images j.page.0 p.0 j (blank_page p) (sym e) g.here t.0)) g.of) ∙ t.0)
      (all_both (λ (p : Page). images p.0 ≡ Some (blank_page p)) (λ (p : Page). f.0 ≢ p.0) fs g.blank.1 g.differ.0)

  older_all : AllByRecursion (λ (m : Image). m.stamp.0 < stamp + 1) is
  older_all = all_map (λ (m : Image). m.stamp.0 < stamp) (λ (m : Image). m.stamp.0 < stamp + 1) is (λ m lt. omega (arith, lt)) g.old.1

  left_of : is_of table h.left ≡ true
  left_of = subst (λ t. is_of t h.left ≡ true) (of_is table i.body i_of) parts.parted.table_left

  right_of : is_of table h.right ≡ true
  right_of = subst (λ t. is_of t h.right ≡ true) (of_is table i.body i_of) parts.parted.table_right

  one_more : stamp < stamp + 1
  one_more = omega arith

  fewer : length is ≤ length fs
  fewer = let e = g.enough in omega (arith, e)

  i_within : (is_from (low_of i.body) row.key ≡ true) × (is_below (high_of i.body) row.key ≡ true)
  i_within = both (is_from (low_of i.body) row.key) (is_below (high_of i.body) row.key) i_holds

  pub good_left : key_less row.key at ≡ true → Good T' table (stamp + 1) row (made i h.left stamp) is fs
  good_left less = record {
    tiles = new_tiles;
    here = change.at_page;
    older = one_more;
    of = left_of;
    holds = ap (λ o. is_within o (high_of h.left) row.key) parts.parted.low_left ∙ ap (λ o. is_within (low_of i.body) o row.key) parts.parted.high_left ∙ both_true (is_from (low_of i.body) row.key) (key_less row.key at) i_within.0 less;
    room = parts.room_left;
    chain = chain_half (made i h.left stamp) parts.parted.level_left (λ pl a w. in_left i.body h pl row.key parts.parted a w less) is g.chain.1;
    full = g.full.1;
    old = older_all;
    blank = still_blank;
    differ = g.differ.1;
    enough = fewer;
    sound = g.sound;
  }

  pub good_right : key_less row.key at ≡ false → Good T' table (stamp + 1) row (made (blank_page f) h.right stamp) is fs
  good_right more = record {
    tiles = new_tiles;
    here = change.at_fresh;
    older = one_more;
    of = right_of;
    holds = ap (λ o. is_within o (high_of h.right) row.key) parts.parted.low_right ∙ ap (λ o. is_within (Some at) o row.key) parts.parted.high_right ∙ both_true (not (key_less row.key at)) (is_below (high_of i.body) row.key) (ap not more) i_within.1;
    room = parts.room_right;
    chain = chain_half (made (blank_page f) h.right stamp) parts.parted.level_right (λ pl a w. in_right i.body h pl row.key parts.parted a w more) is g.chain.1;
    full = g.full.1;
    old = older_all;
    blank = still_blank;
    differ = g.differ.1;
    enough = fewer;
    sound = g.sound;
  }

  abbrev Follow : List (List Record) → Type 0
  Follow gs = Both images stamp gs table row

  same_rows : SameRows images T' table
  same_rows = split_rows images stamp group table i j h f g.tiles splits

  pub follow : ((k : Image) → Good T' table (stamp + 1) row k is fs → Both T' (stamp + 1) (groups_below row (spot_of k) is fs (stamp + 1)) table row) → (b : Bool) → key_less row.key at ≡ b → Follow (groups_below row (spot_of j) (i ∷ is) (f ∷ fs) stamp)
  follow rest true less =
      let k = made i h.left stamp in
      let t : table_of i.body ≡ table_of h.left = of_is table i.body i_of ∙ sym (of_is table h.left left_of) in
      let p : half_for row.key h i.page f ≡ i.page = ap (λ b. cond b i.page f) less in
      let q : groups_below row (spot_of j) (i ∷ is) (f ∷ fs) stamp ≡ group ∷ groups_below row (spot_of k) is fs (stamp + 1) =
      ap (λ o. splitting row (spot_of j) i o f stamp (λ half. groups_below row half is fs (stamp + 1))) parts.has ∙ (λ m. group ∷ groups_below row (record { page = p m; stamp = stamp; table = t m }) is fs (stamp + 1)) in
      let d = rest k (good_left less) in
      subst Follow (sym q) ((fits, d.0), set_after images T' (after_all T' (groups_below row (spot_of k) is fs (stamp + 1)) (stamp + 1)) table row same_rows d.1)
  follow rest false more =
      let k = made (blank_page f) h.right stamp in
      let t : table_of i.body ≡ table_of h.right = of_is table i.body i_of ∙ sym (of_is table h.right right_of) in
      let p : half_for row.key h i.page f ≡ f = ap (λ b. cond b i.page f) more in
      let q : groups_below row (spot_of j) (i ∷ is) (f ∷ fs) stamp ≡ group ∷ groups_below row (spot_of k) is fs (stamp + 1) =
      ap (λ o. splitting row (spot_of j) i o f stamp (λ half. groups_below row half is fs (stamp + 1))) parts.has ∙ (λ m. group ∷ groups_below row (record { page = p m; stamp = stamp; table = t m }) is fs (stamp + 1)) in
      let d = rest k (good_right more) in
      subst Follow (sym q) ((fits, d.0), set_after images T' (after_all T' (groups_below row (spot_of k) is fs (stamp + 1)) (stamp + 1)) table row same_rows d.1)

-- ---- all of them

pub all_fit : (images : Images) (table stamp : ℕ) (row : Row) (j : Image) (is : List Image) (fresh : List Page) → Good images table stamp row j is fresh → Both images stamp (groups_below row (spot_of j) is fresh stamp) table row
all_fit images table stamp row j [] fresh g =
    let e = ends images table stamp row j fresh g in
    ((inl (row, j, e), tt), put_sets images stamp (row_group row (spot_of j)) table row j g.tiles e)
all_fit images table stamp row j (i ∷ is) [] g = let e = g.enough in absurd (omega (arith, e))
all_fit images table stamp row j (i ∷ is) (f ∷ fs) g =
    let p = parts images table stamp row j i is f fs g in
    follow images table stamp row j i is f fs g
    (λ k good. all_fit (after images (split_group (spot_of j) (spot_of i) p.h f) stamp) table (stamp + 1) row k is fs good)
    (key_less row.key p.h.separator) refl
