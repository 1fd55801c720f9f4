-- The undoing of a row, as the one record that it logs, if it wants one.
use Rattle.std.specs.Prelude.{◌≡◌, ℕ, Bool, cond, List, [], ◌∷◌, Option, Some, None}
use Rattle.tm_data.specs.declared.image.Image.{Image}
use Rattle.tm_data.specs.declared.log.Record.{Record}
use Rattle.tm_data.specs.declared.log.Record.TheVariants.{RowSet}
use Rattle.tm_data.specs.declared.row.Row.{Row}
use Rattle.tm_data.specs.declared.row.Before.{Before}
use Rattle.tm_data.specs.declared.row.Before.TheVariants.{Same, Was}
use Rattle.tm_data.specs.declared.transaction.Txn.{Txn}
use Rattle.page_model.specs.Effects.{page_of}
use Rattle.lock_table.specs.Tags.{same_txn}
use Rattle.master_model.specs.Paths.{row_at}
use Rattle.master_model.specs.State.{Answer, Work}
use Rattle.master_model.specs.Logging.{logs, with_room}
use Rattle.master_model.specs.Ends.{row_undone, undone_logged}
use Rattle.master_work.specs.Changes.{IsMadeOn}
use Rattle.page_model.specs.Pool.{Pool}

abbrev pub undoing_from : Image → ℕ → Row → Before → Option Record
undoing_from leaf table row Same = None
undoing_from leaf table row (Was value) = Some (RowSet leaf.page leaf.stamp table (row_undone row value))

abbrev pub undoing_of : Image → ℕ → Txn → Option Row → Option Record
undoing_of leaf table t None = None
undoing_of leaf table t (Some row) = cond (same_txn row.txn t) (undoing_from leaf table row row.before) None

-- A row that is the transaction's, and isn't undone already, wants a record.
abbrev pub undoing : Image → ℕ → List ℕ → Txn → Option Record
undoing leaf table key t = undoing_of leaf table t (row_at leaf key)

-- The groups of one record, or none.
abbrev pub as_groups : Option Record → List (List Record)
as_groups None = []
as_groups (Some r) = (r ∷ []) ∷ []

abbrev pub count_of : Option Record → ℕ
count_of None = 0
count_of (Some r) = 1

-- It is logged where numbers and stamps are left, and the row counts as undone.
abbrev pub undoes_one : Option Record → Work → Answer
undoes_one o w = with_room w (count_of o) (undone_logged (logs w (as_groups o)))

-- The record, if there is one, changes this page, and was made on the image of it that the pool has.
abbrev pub IsMadeAt : Pool → ℕ → Option Record → Type 0
IsMadeAt p page None = Unit {0}
IsMadeAt p page (Some r) = (page_of r ≡ Some page) × IsMadeOn p page r
