-- What a command is let through by, before it comes to a page.
use Rattle.std.specs.Prelude.{ℕ, Bool, true, false, nat_le, List, length, Result, Ok, Err}
use Rattle.std.specs.FinMap as fin
use Rattle.std.specs.declared.option.Option.{Option}
use Rattle.std.specs.declared.option.Option.TheVariants.{None, Some}
use Rattle.tm_base.specs.declared.reply.Reply.{Reply}
use Rattle.tm_base.specs.declared.reply.Reply.TheVariants as reply
use Rattle.master_model.specs.declared.session.Own.{Own}
use Rattle.master_model.specs.declared.session.Progress.{Progress}
use Rattle.master_model.specs.declared.session.Progress.TheVariants.{Active}
use Rattle.master_model.specs.State.{Work}
use Rattle.master_model.specs.Reads.{is_table, txn_numbered}

-- ---- the transaction of a session

abbrev pub open_by : Option Own → Result Own Reply
open_by None = Err reply.NoTransaction
open_by (Some own) = Ok own

-- The session's transaction, if it has one.
abbrev pub open_in : Work → ℕ → Result Own Reply
open_in w session = open_by (fin.get w.sessions session)

abbrev pub active_by : Work → Own → Progress → Result Own Reply
active_by w own Active = Ok own
active_by w own other = Err (reply.Ending (txn_numbered w own.number))

abbrev pub active_of : Work → Result Own Reply → Result Own Reply
active_of w (Err said) = Err said
active_of w (Ok own) = active_by w own own.progress

-- The session's transaction, if that reads and writes.
abbrev pub active_in : Work → ℕ → Result Own Reply
active_in w session = active_of w (open_in w session)

-- ---- a key of a table

abbrev pub short_key : List ℕ → Bool → Result (List ℕ) Reply
short_key key false = Err (reply.TooLongKey (length key))
short_key key true = Ok key

abbrev pub key_in : ℕ → List ℕ → Bool → Result (List ℕ) Reply
key_in table key false = Err (reply.NoTable table)
key_in table key true = short_key key (nat_le (length key) 64)

-- The key, if there is such a table and it may be one.
abbrev pub named_key : ℕ → List ℕ → Result (List ℕ) Reply
named_key table key = key_in table key (is_table table)
