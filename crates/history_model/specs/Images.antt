-- The images and the rows at a cut of a history.
use Rattle.std.specs.Prelude.{◌≡◌, ◌≢◌, ℕ, ◌<◌, ◌≤◌, Bool, true, false, cond, not, ◌&&◌, nat_eq, is_some, List, [], ◌∷◌, Contains}
use Rattle.std.specs.List.{AllByRecursion, list_any}
use Rattle.std.specs.declared.option.Option.{Option}
use Rattle.std.specs.declared.option.Option.TheVariants.{None, Some}
use Rattle.tm_data.specs.declared.transaction.Txn.{Txn}
use Rattle.tm_data.specs.declared.row_map.RowKey.{RowKey}
use Rattle.tm_data.specs.declared.row.Row.{Row}
use Rattle.tm_data.specs.declared.row.Before.{Before}
use Rattle.tm_data.specs.declared.row.Before.TheVariants.{Same, Was}
use Rattle.tm_data.specs.declared.image.Body.{Body}
use Rattle.tm_data.specs.declared.image.Body.TheVariants.{Blank, Leaf, Inner}
use Rattle.tm_data.specs.declared.log.Group.{Group}
use Rattle.tm_data.specs.declared.log.Record.{Record}
use Rattle.tm_data.specs.declared.log.Record.TheVariants as change
use Rattle.key_fences.specs.Fences.{is_within}
use Rattle.key_model.specs.Steps.{row_of}
use Rattle.key_model.specs.After.{same_txn, same_row}
use Rattle.key_model.specs.Cuts.{Cut, before_of}
use Rattle.page_model.specs.Effects.{page_of, prev_of}
use Rattle.page_model.specs.Tree.{Images}
use Rattle.page_model.specs.Tiling.{Fits, after, record_on}
pub use Rattle.page_model.specs.Tiling.{first_images}
use Rattle.page_model.specs.Versions.{link_of}
use Rattle.page_model.specs.declared.link.Link.{Link}
use Rattle.history_model.specs.History.{Bound, Deed, Reads, Logs, Entry, has}
use Rattle.history_model.specs.Bounds.{AtMost}

-- ---- images

-- The images after a group.
abbrev pub images_after : Images → Group → Images
images_after images g = after images g.records g.stamp.0

abbrev pub images_if : Bool → Images → Group → Images
images_if true images g = images_after images g
images_if false images g = images

-- The images after those groups of a list that are in the cut, in order.
abbrev pub images_from : Images → Cut → List Group → Images
images_from images cut [] = images
images_from images cut (g ∷ gs) = images_from (images_if (has cut g) images g) cut gs

abbrev pub images_at : Cut → List Group → Images
images_at cut gs = images_from first_images cut gs

-- The images of all groups.
abbrev pub everything : Cut
everything m = true

-- ---- the changes of a page

abbrev pub with_link : Group → Option Record → List Link → List Link
with_link g None links = links
with_link g (Some r) links = link_of g.writer.0 g.stamp.0 r ∷ links

-- The changes of a page, in the order of the list: each with its writer and its stamp.
abbrev pub changes : ℕ → List Group → List Link
changes page [] = []
changes page (g ∷ gs) = with_link g (record_on page g.records) (changes page gs)

-- The stamp of the last change, 0 where there is none.
abbrev pub last_stamp : ℕ → List Link → ℕ
last_stamp so_far [] = so_far
last_stamp so_far (l ∷ ls) = last_stamp l.stamp.0 ls

abbrev pub last_change : ℕ → List Group → ℕ
last_change page gs = last_stamp 0 (changes page gs)

-- ---- rows

-- At most one row for each key.
abbrev pub Rows : Type 0
Rows = RowKey → Option Row

abbrev pub no_rows : Rows
no_rows key = None

-- The value before a row's transaction.
abbrev pub was : Option (List ℕ) → Before → Option (List ℕ)
was now Same = now
was now (Was value) = value

-- The value before a put's transaction, on a key that had this row: while the row is the transaction's own, the value
-- before stays; else it is the value of the row, or none.
abbrev pub was_for : Txn → Option Row → Option (List ℕ)
was_for t None = None
was_for t (Some r) = cond (same_txn t r.txn) (was r.now r.before) r.now

-- The row that a put makes of the one that was there: its key, transaction and value, and the value before.
abbrev pub row_put : Option Row → Row → Row
row_put old new = record { key = new.key; txn = new.txn; now = new.now; before = before_of new.now (was_for new.txn old) }

-- The rows after a record.
abbrev pub row_with : Record → Rows → Rows
row_with (change.RowSet page prev table new) rows key = cond (same_row key (row_of table new.key)) (Some (row_put (rows key) new)) (rows key)
row_with (change.Cut page prev at) rows key = rows key
row_with (change.Format page prev body) rows key = rows key
row_with (change.NodeAdd page prev at child) rows key = rows key
row_with (change.End t committed) rows key = rows key
row_with change.Beat rows key = rows key

abbrev pub rows_with : Rows → List Record → Rows
rows_with rows [] = rows
rows_with rows (r ∷ rs) = rows_with (row_with r rows) rs

abbrev pub rows_if : Bool → Rows → Group → Rows
rows_if true rows g = rows_with rows g.records
rows_if false rows g = rows

-- The rows after those groups of a list that are in the cut, one put after another.
abbrev pub rows_from : Rows → Cut → List Group → Rows
rows_from rows cut [] = rows
rows_from rows cut (g ∷ gs) = rows_from (rows_if (has cut g) rows g) cut gs

abbrev pub rows_in : Cut → List Group → Rows
rows_in cut gs = rows_from no_rows cut gs

-- ---- what fits

-- The group fits the images in some table: it is a put, a split or a root's split there, or on no page.
abbrev pub GroupFits : Images → Group → Type 0
GroupFits images g = (table : ℕ) × Fits images g.stamp.0 g.records table

-- The `before` of a put is what the rows before it give.
abbrev pub HasBefore : Rows → Record → Type 0
HasBefore rows (change.RowSet page prev table new) = new ≡ row_put (rows (row_of table new.key)) new
HasBefore rows (change.Cut page prev at) = Unit {0}
HasBefore rows (change.Format page prev body) = Unit {0}
HasBefore rows (change.NodeAdd page prev at child) = Unit {0}
HasBefore rows (change.End t committed) = Unit {0}
HasBefore rows change.Beat = Unit {0}

-- Each group fits the images after those before it, and its puts the rows after those.
abbrev pub FitFrom : Images → Rows → List Group → Type 0
FitFrom images rows [] = Unit {0}
FitFrom images rows (g ∷ gs) =
    GroupFits images g × AllByRecursion (HasBefore rows) g.records × FitFrom (images_after images g) (rows_with rows g.records) gs

abbrev pub AllFit : List Group → Type 0
AllFit gs = FitFrom first_images no_rows gs

-- ---- cuts that are whole for pages

-- The group made this version of the page.
abbrev pub makes : Group → ℕ → Option ℕ → Bool
makes g stamp None = false
makes g stamp (Some page) = is_some (record_on page g.records) && nat_eq g.stamp.0 stamp

-- A record changes a version that the group made. A page's first version, at stamp 0, no group made.
abbrev pub changes_made : Group → Record → Bool
changes_made h r = not (nat_eq (prev_of r) 0) && makes h (prev_of r) (page_of r)

-- A group stands on a version that another made.
abbrev pub stands_on : Group → Group → Bool
stands_on g h = list_any (changes_made h) g.records

-- A cut is whole for pages if with each group it has those that made the versions on which the group stands.
abbrev pub IsWhole : List Group → Cut → Type 0
IsWhole gs cut =
    AllByRecursion (λ (g : Group). has cut g ≡ true → AllByRecursion (λ (h : Group). stands_on g h ≡ true → has cut h ≡ true) gs) gs

-- Stamps on a page rise: a record's group is above the version that the record changes.
abbrev pub StampsRise : List Group → Type 0
StampsRise gs = AllByRecursion (λ (g : Group). AllByRecursion (λ (r : Record). prev_of r ≢ 0 → prev_of r < g.stamp.0) g.records) gs

-- The bound of a group has its stamp, and is at least the bound of each group that made a version on which it stands.
abbrev pub HasOwn : Bound → Deed → Type 0
HasOwn bound (Reads w t key) = Unit {0}
HasOwn bound (Logs g) = g.stamp.0 ≤ bound g.writer.0

abbrev pub stands : Deed → Deed → Bool
stands (Logs g) (Logs h) = stands_on g h
stands (Logs g) (Reads w t key) = false
stands (Reads w t key) other = false

pub record BoundsOrderPages (entries : List Entry) : Type 0 where
  pub own : AllByRecursion (λ (e : Entry). HasOwn e.bound e.deed) entries
  pub rise : AllByRecursion (λ (e : Entry). AllByRecursion (λ (i : Entry). stands e.deed i.deed ≡ true → AtMost i.bound e.bound) entries) entries

-- ---- an image and a cut

-- These rows of a leaf are exactly those of its table's keys between its fences.
pub record AreRowsOf (rows : Rows) (table : ℕ) (low high : Option (List ℕ)) (items : List Row) : Type 0 where
  pub each : (r : Row) → Contains items r → (is_within low high r.key ≡ true) × (rows (row_of table r.key) ≡ Some r)
  pub all : (key : List ℕ) (r : Row) → is_within low high key ≡ true → rows (row_of table key) ≡ Some r → Contains items r

-- An image agrees with the rows at a cut if it is no leaf, or has exactly the rows between its fences.
abbrev pub Agrees : Rows → Body → Type 0
Agrees rows Blank = Unit {0}
Agrees rows (Leaf table low high items) = AreRowsOf rows table low high items
Agrees rows (Inner table level low high first entries) = Unit {0}
