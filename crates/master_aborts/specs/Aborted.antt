-- A row that an abort undoes, as the one record that it logs, if it wants one.
use Rattle.std.specs.Prelude.{ℕ, ◌+◌, List, [], ◌∷◌, ◌++◌, false, Option}
use Rattle.std.specs.FinMap as fin
use Rattle.tm_data.specs.declared.log.Record.{Record}
use Rattle.tm_data.specs.declared.row_map.RowKey.{RowKey}
use Rattle.tm_data.specs.declared.transaction.Txn.{Txn}
use Rattle.tm_base.specs.declared.reply.Reply.TheVariants as reply
use Rattle.master_model.specs.declared.session.Own.{Own}
use Rattle.master_model.specs.declared.session.Progress.TheVariants.{Undoing}
use Rattle.master_model.specs.State.{Answer, Work}
use Rattle.master_model.specs.Reads.{with_session}
use Rattle.master_model.specs.Logging.{Logged, logs, with_room}
use Rattle.master_model.specs.Ends.{end_of, ends}
use Rattle.master_aborts.specs.Undone.{as_groups, count_of}

-- The row counts no more as written, and so many are left.
abbrev pub row_left : ℕ → Own → RowKey → ℕ → Logged → Answer
row_left session own row left l = record {
  work = with_session l.work session (record own { written = fin.remove own.written row; progress = Undoing });
  reply = reply.AgainRows left;
  groups = l.groups;
  messages = [];
}

-- A row is undone, and others are left.
abbrev pub leaves_rows : ℕ → Own → RowKey → ℕ → Option Record → Work → Answer
leaves_rows session own row left o w = with_room w (count_of o) (row_left session own row left (logs w (as_groups o)))

-- The groups of the last row, and the end behind them.
abbrev pub and_end : Option Record → Txn → List (List Record)
and_end o t = as_groups o ++ end_of t false ∷ []

-- The last row is undone, and the transaction ends.
abbrev pub ends_rows : ℕ → Own → Txn → Option Record → Work → Answer
ends_rows session own t o w = with_room w (count_of o + 1) (ends session own false (logs w (and_end o t)))
