-- Groups of many writers, in the order of the log: what each finds, and the images and rows after all of them.
use Rattle.std.specs.Prelude.{◌≡◌, ℕ, ◌<◌, cond, nat_eq, List, [], ◌∷◌, Some}
use Rattle.std.specs.Ordering.{nat_cmp}
use Rattle.std.specs.Cmp.Lexicographic.{slice_cmp}
use Rattle.std.specs.FinMap.{FinMap, insert}
use Rattle.tm_data.specs.declared.row.Row.{Row}
use Rattle.tm_data.specs.declared.image.Image.{Image}
use Rattle.tm_data.specs.declared.log.Record.{Record}
use Rattle.tm_data.specs.declared.log.Record.TheVariants.{RowSet}
use Rattle.tm_data.specs.declared.log.Group.{Group}
use Rattle.page_model.specs.Effects.{redone_at, prev_of}
use Rattle.page_model.specs.Tree.{Images}
use Rattle.page_model.specs.Tiling.{Fits, record_on, after}

-- ---- one group

-- The two sets have the same image of each page that the group names.
abbrev pub AgreeOn : Images → Images → List Record → Type 0
AgreeOn images other group = (p : ℕ) (change : Record) → record_on p group ≡ Some change → other p ≡ images p

-- A record finds an image of the page that it names, with the stamp that it gives as the one before, which is below
-- the group's; and it suits that image.
pub record Finds (images : Images) (stamp p : ℕ) (change : Record) : Type 0 where
  pub old : Image
  pub new : Image
  pub was : images p ≡ Some old
  pub own : old.page.0 ≡ p
  pub prev : prev_of change ≡ old.stamp.0
  pub older : old.stamp.0 < stamp
  pub suits : redone_at old change stamp ≡ Some new

-- ---- many groups

-- The images after groups of any writers, each with the stamp of its own.
abbrev pub after_log : Images → List Group → Images
after_log images [] = images
after_log images (g ∷ gs) = after_log (after images g.records g.stamp.0) gs

-- Each group fits the images after those before it, in a table of its own.
abbrev pub FitsLog : Images → List Group → Type 0
FitsLog images [] = Unit {0}
FitsLog images (g ∷ gs) = ((table : ℕ) × Fits images g.stamp.0 g.records table) × FitsLog (after images g.records g.stamp.0) gs

-- ---- the rows

abbrev pub Rows : Type 0
Rows = FinMap (slice_cmp nat_cmp) Row

-- A put of the table sets its row, and no other record changes the rows.
abbrev pub rows_with : ℕ → Rows → Record → Rows
rows_with table rows (RowSet page prev of row) = cond (nat_eq of table) (insert rows row.key row) rows
rows_with table rows change = rows

-- The rows of a table after the records of a group, and after groups, in order.
abbrev pub rows_after : ℕ → Rows → List Record → Rows
rows_after table rows [] = rows
rows_after table rows (r ∷ rs) = rows_after table (rows_with table rows r) rs

abbrev pub rows_after_log : ℕ → Rows → List Group → Rows
rows_after_log table rows [] = rows
rows_after_log table rows (g ∷ gs) = rows_after_log table (rows_after table rows g.records) gs
