-- What the images of a cut of a history have.
use Rattle.std.specs.Prelude.{◌≡◌, ◌↔◌, ℕ, ◌≤◌, List, Some}
use Rattle.tm_data.specs.declared.row.Row.{Row}
use Rattle.tm_data.specs.declared.image.Image.{Image}
use Rattle.tm_data.specs.declared.log.Group.{Group}
use Rattle.key_model.specs.Steps.{row_of}
use Rattle.key_model.specs.Cuts.{Cut, row_at}
use Rattle.page_model.specs.Tree.{Images}
use Rattle.tree_laws.specs.Reach.{TilesFromRoot, HasRowFromRoot}
use Rattle.history_model.specs.History.{Entry, groups, events}
use Rattle.history_model.specs.Blocks.{PutsStandTogether}
use Rattle.history_model.specs.Images.{Rows, images_at, rows_in, AllFit, IsWhole, Agrees}

-- The rows of a table that are reached from its root are these: each key has the row that it has here, or none.
abbrev pub AreTheRows : Images → Rows → ℕ → Type 0
AreTheRows images rows table = (key : List ℕ) (r : Row) → (HasRowFromRoot images table r × (r.key ≡ key)) ↔ (rows (row_of table key) ≡ Some r)

-- The images of a cut tile every table from its root, the table's rows are those of the cut, and every leaf, reached
-- or not, has exactly the rows of the cut between its fences.
pub record HasItsRows (images : Images) (rows : Rows) : Type 0 where
  pub tiles : (table : ℕ) → 1 ≤ table → table ≤ 1024 → TilesFromRoot images table
  pub rows_are : (table : ℕ) → 1 ≤ table → table ≤ 1024 → AreTheRows images rows table
  pub leaves : (page : ℕ) (i : Image) → images page ≡ Some i → Agrees rows i.body

-- So it is at each cut that is whole for pages, of groups that fit one after another.
abbrev pub CutsHaveTheirRows : Type 0
CutsHaveTheirRows = (groups : List Group) (cut : Cut) → AllFit groups → IsWhole groups cut → HasItsRows (images_at cut groups) (rows_in cut groups)

-- So the images of such a cut of a history have the rows at the cut, as its event list gives them.
abbrev pub CutsHaveTheRowsAtThem : Type 0
CutsHaveTheRowsAtThem =
    (entries : List Entry) (cut : Cut) → AllFit (groups entries) → PutsStandTogether (events entries) → IsWhole (groups entries) cut
    → HasItsRows (images_at cut (groups entries)) (row_at (events entries) cut)
