-- A row that is written where it fits.
use Rattle.std.specs.Prelude.{ℕ, List, [], ◌∷◌}
use Rattle.std.specs.FinMap as fin
use Rattle.tm_data.specs.declared.log.Record.{Record}
use Rattle.tm_data.specs.declared.row_map.RowKey.{RowKey}
use Rattle.tm_base.specs.declared.reply.Reply.TheVariants as reply
use Rattle.master_model.specs.declared.session.Own.{Own}
use Rattle.master_model.specs.State.{Answer, Work}
use Rattle.master_model.specs.Reads.{with_session}
use Rattle.master_model.specs.Logging.{Logged, logs, with_room}
use Rattle.master_ends.specs.Ended.{with_logged}

-- The session's transaction has written the row.
abbrev pub noted : ℕ → Own → RowKey → Logged → Logged
noted session own row l = with_logged (with_session l.work session (record own { written = fin.insert own.written row tt })) l.groups

abbrev pub done : Logged → Answer
done l = record { work = l.work; reply = reply.Done; groups = l.groups; messages = [] }

-- The record is logged where a number and a stamp are left.
abbrev pub writes : ℕ → Own → RowKey → Record → Work → Answer
writes session own row change w = with_room w 1 (done (noted session own row (logs w ((change ∷ []) ∷ []))))
