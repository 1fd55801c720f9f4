-- The end of a session's transaction.
use Rattle.std.specs.Prelude.{ℕ, Bool, List, [], ◌∷◌}
use Rattle.tm_data.specs.declared.log.Group.{Group}
use Rattle.master_model.specs.declared.session.Own.{Own}
use Rattle.tm_base.specs.declared.reply.Reply.TheVariants as reply
use Rattle.log_writer.specs.Log.{last_seq}
use Rattle.master_model.specs.State.{Answer, Work}
use Rattle.master_model.specs.Logging.{Logged, logs}
use Rattle.master_model.specs.Reads.{txn_numbered}
use Rattle.master_model.specs.Ends.{awaited, end_of, ended, waits}

-- Groups that were logged, with the state after them.
abbrev pub with_logged : Work → List Group → Logged
with_logged w groups = record { work = w; groups = groups }

-- The end as the one group that is logged next.
abbrev pub logs_end : Work → Own → Bool → Logged
logs_end w own committed = logs w (end_of (txn_numbered w own.number) committed ∷ [])

-- With the state in which the session waits for it.
abbrev pub waits_in : ℕ → Own → Bool → Logged → Logged
waits_in session own committed l = with_logged (ended l.work session own committed l.groups).work l.groups

-- The answer that says which log store is awaited for the last group.
abbrev pub waiting : Logged → Answer
waiting l = record { work = l.work; reply = waits reply.Done (awaited l.work (last_seq l.work.log)); groups = l.groups; messages = [] }
