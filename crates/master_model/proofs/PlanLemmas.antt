-- The groups of a plan, and of an undone row, have no end in them.
use Rattle.std.proofs.Common.{◌≡◌, ◌+◌, ◌-◌, ℕ, Bool, true, false, List, [], ◌∷◌, Option, Some, None, Result, Ok, Err, refl, cond, length, reverse}
use Rattle.std.specs.Prelude.{nat_lt, nat_le}
use Rattle.std.specs.List.{AllByRecursion}
use Rattle.tm_data.specs.declared.image.Image.{Image}
use Rattle.tm_data.specs.declared.log.Record.{Record}
use Rattle.tm_data.specs.declared.log.Record.TheVariants.{RowSet, Cut, Format, NodeAdd, End, Beat}
use Rattle.tm_data.specs.declared.row.Row.{Row}
use Rattle.tm_data.specs.declared.row.Before.{Before}
use Rattle.tm_data.specs.declared.row.Before.TheVariants.{Same, Was}
use Rattle.tm_data.specs.declared.transaction.Page.{Page}
use Rattle.tm_data.specs.declared.transaction.Txn.{Txn}
use Rattle.page_model.specs.Splits as splits
use Rattle.page_model.specs.Splits.{Halves, Refusal, Spot, changed_page, images_on, placed, plan_of}
use Rattle.page_model.specs.Tree.{Images, level_of}
use Rattle.lock_table.specs.Tags.{same_txn}
use Rattle.master_model.specs.Paths.{row_at}
use Rattle.master_model.specs.Ends as ends
use Rattle.master_model.specs.Acks.{ends_in}

abbrev pub NoEnds : List (List Record) → Type 0
NoEnds groups = AllByRecursion (λ (rs : List Record). ends_in rs ≡ []) groups

abbrev pub PlanHasNone : Result (List (List Record)) Refusal → Type 0
PlanHasNone (Ok groups) = NoEnds groups
PlanHasNone (Err refusal) = Unit {0}

-- ---- records in their order

abbrev IsNoEnd : Record → Type 0
IsNoEnd r = ends_in (r ∷ []) ≡ []

in_front_of : (r : Record) (rs : List Record) → IsNoEnd r → ends_in rs ≡ [] → ends_in (r ∷ rs) ≡ []
in_front_of (RowSet page prev table row) rs h k = k
in_front_of (Cut page prev at) rs h k = k
in_front_of (Format page prev body) rs h k = k
in_front_of (NodeAdd page prev key child) rs h k = k
in_front_of (End t committed) rs h k = absurd (cc h)
in_front_of Beat rs h k = k

parts : (r : Record) (rs : List Record) → ends_in (r ∷ rs) ≡ [] → IsNoEnd r × (ends_in rs ≡ [])
parts (RowSet page prev table row) rs h = (refl, h)
parts (Cut page prev at) rs h = (refl, h)
parts (Format page prev body) rs h = (refl, h)
parts (NodeAdd page prev key child) rs h = (refl, h)
parts (End t committed) rs h = absurd (cc h)
parts Beat rs h = (refl, h)

none_placed : (r : Record) (rs : List Record) → IsNoEnd r → ends_in rs ≡ [] → ends_in (placed r rs) ≡ []
none_placed r [] h k = h
none_placed r (s ∷ rs) h k = let two = parts s rs k in by (nat_lt (changed_page s) (changed_page r)) two.0 (none_placed r rs h two.1)
  where
    by : (b : Bool) → IsNoEnd s → ends_in (placed r rs) ≡ [] → ends_in (cond b (s ∷ placed r rs) (r ∷ s ∷ rs)) ≡ []
    by true one rest = in_front_of s (placed r rs) one rest
    by false one rest = in_front_of r (s ∷ rs) h k

-- ---- the plan

split_has_none : (parent split : Spot) (h : Halves) (fresh : Page) → ends_in (splits.split_group parent split h fresh) ≡ []
split_has_none parent split h fresh =
    let added : List Record = NodeAdd parent.page (record { 0 = parent.stamp }) h.separator fresh ∷ [] in
    let made : Record = Format fresh (record { 0 = 0 }) h.right in
    none_placed (Cut split.page (record { 0 = split.stamp }) h.separator) (placed made added) refl (none_placed made added refl refl)

root_has_none : (image : Image) (h : Halves) (left right : Page) → ends_in (splits.root_group image h left right) ≡ []
root_has_none image h left right =
    let last : List Record = Format right (record { 0 = 0 }) h.right ∷ [] in
    let made : Record = Format left (record { 0 = 0 }) h.left in
    none_placed (Format image.page image.stamp (splits.root_over image.body h left right)) (placed made last) refl (none_placed made last refl refl)

below_has_none : (row : Row) (spot : Spot) (images : List Image) (fresh : List Page) (stamp : ℕ) → NoEnds (splits.groups_below row spot images fresh stamp)
below_has_none row spot [] fresh stamp = (refl, tt)
below_has_none row spot (image ∷ images) [] stamp = tt
below_has_none row spot (image ∷ images) (page ∷ fresh) stamp = by (splits.halves image.body) (λ half. below_has_none row half images fresh (stamp + 1))
  where
    by : (o : Option Halves) → ((half : Spot) → NoEnds (splits.groups_below row half images fresh (stamp + 1))) → NoEnds (splits.splitting row spot image o page stamp (λ half. splits.groups_below row half images fresh (stamp + 1)))
    by None rest = tt
    by (Some h) rest = (split_has_none spot (splits.spot_of image) h page, rest _)

of_root_has_none : (row : Row) (image : Image) (images : List Image) (fresh : List Page) (stamp : ℕ) → NoEnds (splits.groups_of_root row image images fresh stamp)
of_root_has_none row image images [] stamp = tt
of_root_has_none row image images (left ∷ []) stamp = tt
of_root_has_none row image images (left ∷ right ∷ fresh) stamp = by (splits.halves image.body)
  where
    by : (o : Option Halves) → NoEnds (splits.splitting_root row image o left right stamp (λ half. splits.groups_below row half images fresh (stamp + 1)))
    by None = tt
    by (Some h) = (root_has_none image h left right, below_has_none row _ images fresh (stamp + 1))

if_enough_has_none : (needed : ℕ) (fresh : List Page) (groups : List (List Record)) → NoEnds groups → PlanHasNone (splits.if_enough needed fresh groups)
if_enough_has_none needed fresh groups h = by (nat_lt (length fresh) needed)
  where
    by : (b : Bool) → PlanHasNone (cond b (Err (splits.Wanting (needed - length fresh))) (Ok groups))
    by true = tt
    by false = h

with_has_none : (row : Row) (fresh : List Page) (first : ℕ) (o : Option Image) (images : List Image) → PlanHasNone (splits.plan_with row fresh first o images)
with_has_none row fresh first (Some above) images = if_enough_has_none (length images) fresh _ (below_has_none row (splits.spot_of above) images fresh first)
with_has_none row fresh first None [] = tt
with_has_none row fresh first None (image ∷ images) = by (nat_le 5 (level_of image.body))
  where
    by : (b : Bool) → PlanHasNone (cond b (Err splits.TooHigh) (splits.if_enough (length images + 2) fresh (splits.groups_of_root row image images fresh first)))
    by true = tt
    by false = if_enough_has_none (length images + 2) fresh _ (of_root_has_none row image images fresh first)

pub plan_has_none : (images : Images) (path : List Page) (row : Row) (fresh : List Page) (first : ℕ) → PlanHasNone (plan_of images path row fresh first)
plan_has_none images path row fresh first =
    let upward = reverse (images_on images path) in with_has_none row fresh first (splits.page_above row upward) (reverse (splits.full_pages row upward))

-- ---- an undone row

pub undo_has_none : (leaf : Image) (table : ℕ) (key : List ℕ) (t : Txn) → NoEnds (ends.undo leaf table key t)
undo_has_none leaf table key t = by (row_at leaf key)
  where
    from : (row : Row) (b : Before) → NoEnds (ends.undo_from leaf table row b)
    from row Same = tt
    from row (Was value) = (refl, tt)

    own : (row : Row) (b : Bool) → NoEnds (cond b (ends.undo_from leaf table row row.before) [])
    own row true = from row row.before
    own row false = tt

    by : (o : Option Row) → NoEnds (ends.undo_of leaf table t o)
    by None = tt
    by (Some row) = own row (same_txn row.txn t)
