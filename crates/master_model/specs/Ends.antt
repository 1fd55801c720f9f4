-- The commands commit and abort, the undoing of rows, and what waits for a group to be durable.
use Rattle.std.specs.Prelude.{ℕ, ◌+◌, Bool, true, false, cond, nat_le, List, [], ◌∷◌, ◌++◌, length}
use Rattle.std.specs.FinMap as fin
use Rattle.std.specs.declared.option.Option.{Option}
use Rattle.std.specs.declared.option.Option.TheVariants.{None, Some}
use Rattle.tm_data.specs.declared.image.Image.{Image}
use Rattle.tm_data.specs.declared.log.Group.{Group}
use Rattle.tm_data.specs.declared.log.Record.{Record}
use Rattle.tm_data.specs.declared.log.Record.TheVariants.{RowSet, End}
use Rattle.tm_data.specs.declared.row.Row.{Row}
use Rattle.tm_data.specs.declared.row.Before.{Before}
use Rattle.tm_data.specs.declared.row.Before.TheVariants.{Same, Was}
use Rattle.tm_data.specs.declared.row_map.RowKey.{RowKey}
use Rattle.tm_data.specs.declared.transaction.Txn.{Txn}
use Rattle.tm_base.specs.declared.reply.Reply.{Reply}
use Rattle.tm_base.specs.declared.reply.Reply.TheVariants as reply
use Rattle.log_writer.specs.Log.{lacking, last_seq}
use Rattle.lock_table.specs.Tags.{same_txn}
use Rattle.master_model.specs.declared.session.Own.{Own}
use Rattle.master_model.specs.declared.session.Progress.{Progress}
use Rattle.master_model.specs.declared.session.Progress.TheVariants.{Active, Undoing, Ended}
use Rattle.master_model.specs.State.{Rows, Work, Answer, says, durable}
use Rattle.master_model.specs.Paths.{on_path, row_at}
use Rattle.master_model.specs.Logging.{Logged, logs, with_room}
use Rattle.master_model.specs.Reads.{in_session, txn_numbered, with_session}

-- ---- waiting for a group

-- A log store that hasn't acknowledged a group, with the group's number.
abbrev pub Awaited : Type 0
Awaited = Option (ℕ × ℕ)

-- What is awaited of the first group that isn't durable.
abbrev pub awaited_next : ℕ → Option ℕ → Awaited
awaited_next seq None = None
awaited_next seq (Some store) = Some (store, seq)

-- What is awaited of the command's own group, or, where every store has that, of the first that isn't durable.
abbrev pub awaited_own : Work → ℕ → Option ℕ → Awaited
awaited_own w seq (Some store) = Some (store, seq)
awaited_own w seq None = awaited_next (durable w + 1) (lacking w.log (durable w + 1))

abbrev pub awaited_if : Work → ℕ → Bool → Awaited
awaited_if w seq true = None
awaited_if w seq false = awaited_own w seq (lacking w.log seq)

-- What a command waits for until the group of a number is durable; none once it is.
abbrev pub awaited : Work → ℕ → Awaited
awaited w seq = awaited_if w seq (nat_le seq (durable w))

abbrev pub waits : Reply → Awaited → Reply
waits over None = over
waits over (Some (store, seq)) = reply.AgainStore store seq

-- ---- an end

abbrev pub end_of : Txn → Bool → List Record
end_of t committed = End t committed ∷ []

-- The session waits for the end's group, which is the last one.
abbrev pub ended : Work → ℕ → Own → Bool → List Group → Answer
ended w session own committed groups =
    let seq = last_seq w.log in
    let new = with_session w session (record own { progress = Ended committed seq }) in
    record { work = new; reply = waits reply.Done (awaited new seq); groups = groups; messages = [] }

abbrev pub ends : ℕ → Own → Bool → Logged → Answer
ends session own committed l = ended l.work session own committed l.groups

-- Once the end is durable the session is free.
abbrev pub free : Work → ℕ → Work
free w session = record w { sessions = fin.remove w.sessions session }

abbrev pub answers_end : Work → ℕ → Reply → Awaited → Answer
answers_end w session over None = says (free w session) over
answers_end w session over (Some (store, seq)) = says w (reply.AgainStore store seq)

-- ---- commit

abbrev pub commits : Work → ℕ → Own → Txn → Progress → Answer
commits w session own t Active = with_room w 1 (ends session own true (logs w (end_of t true ∷ [])))
commits w session own t (Ended true seq) = answers_end w session (reply.Committed t) (awaited w seq)
commits w session own t (Ended false seq) = says w (reply.Ending t)
commits w session own t Undoing = says w (reply.Ending t)

abbrev pub commit : Work → ℕ → Answer
commit w session = in_session w session (λ own. commits w session own (txn_numbered w own.number) own.progress)

-- ---- the undoing of a row

-- The row as it was before its transaction's first write. The transaction stays.
abbrev pub row_undone : Row → Option (List ℕ) → Row
row_undone row value = record { key = row.key; txn = row.txn; now = value; before = Same }

-- A row that is the transaction's, and isn't undone already, wants a group. Any other counts as undone.
abbrev pub undo_from : Image → ℕ → Row → Before → List (List Record)
undo_from leaf table row Same = []
undo_from leaf table row (Was value) = (RowSet leaf.page leaf.stamp table (row_undone row value) ∷ []) ∷ []

abbrev pub undo_of : Image → ℕ → Txn → Option Row → List (List Record)
undo_of leaf table t None = []
undo_of leaf table t (Some row) = cond (same_txn row.txn t) (undo_from leaf table row row.before) []

abbrev pub undo : Image → ℕ → List ℕ → Txn → List (List Record)
undo leaf table key t = undo_of leaf table t (row_at leaf key)

-- A row of a closed writer's transaction is undone by the one who recovers it.
abbrev pub undone_logged : Logged → Answer
undone_logged l = record { work = l.work; reply = reply.Done; groups = l.groups; messages = [] }

abbrev pub undoes : List (List Record) → Work → Answer
undoes groups w = with_room w (length groups) (undone_logged (logs w groups))

abbrev pub undo_next : Work → ℕ → List ℕ → Txn → Answer
undo_next w table key t = on_path w table key (λ used path leaf. undoes (undo leaf table key t) used)

-- ---- abort

-- So many rows are left: those that are still noted as written.
abbrev pub rows_left : ℕ → Own → Rows → List RowKey → Logged → Answer
rows_left session own rest left l = record {
  work = with_session l.work session (record own { written = rest; progress = Undoing });
  reply = reply.AgainRows (length left);
  groups = l.groups;
  messages = [];
}

-- With the last row the end is logged in the same step.
abbrev pub aborts_with : Work → ℕ → Own → Txn → Rows → List (List Record) → List RowKey → Answer
aborts_with w session own t rest undone [] =
    with_room w (length undone + 1) (ends session own false (logs w (undone ++ end_of t false ∷ [])))
aborts_with w session own t rest undone (k ∷ ks) =
    with_room w (length undone) (rows_left session own rest (k ∷ ks) (logs w undone))

-- One row is undone, the first one by table and key.
abbrev pub aborts_rows : Work → ℕ → Own → Txn → List RowKey → Answer
aborts_rows w session own t [] = aborts_with w session own t own.written [] []
aborts_rows w session own t (k ∷ ks) = on_path w k.table k.key (λ used path leaf. aborts_with used session own t (fin.remove own.written k) (undo leaf k.table k.key t) ks)

abbrev pub aborts : Work → ℕ → Own → Txn → Progress → Answer
aborts w session own t Active = aborts_rows w session own t (fin.keys own.written)
aborts w session own t Undoing = aborts_rows w session own t (fin.keys own.written)
aborts w session own t (Ended false seq) = answers_end w session (reply.Aborted t) (awaited w seq)
aborts w session own t (Ended true seq) = says w (reply.Ending t)

abbrev pub abort : Work → ℕ → Answer
abort w session = in_session w session (λ own. aborts w session own (txn_numbered w own.number) own.progress)
