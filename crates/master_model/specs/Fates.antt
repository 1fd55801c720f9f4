-- Which transactions have ended, as far as it is known here, and what is said of those that haven't.
use Rattle.std.specs.Prelude.{ℕ, Bool, true, false, cond, not, ◌&&◌, nat_eq, nat_le, List, [], ◌∷◌}
use Rattle.std.specs.List.{list_any}
use Rattle.std.specs.FinMap as fin
use Rattle.std.specs.FinSet as sets
use Rattle.std.specs.declared.option.Option.{Option}
use Rattle.std.specs.declared.option.Option.TheVariants.{None, Some}
use Rattle.tm_data.specs.declared.transaction.Txn.{Txn}
use Rattle.tm_data.specs.declared.vector.VectorEntry.{VectorEntry}
use Rattle.tm_base.specs.declared.message.Node.TheVariants.{Master}
use Rattle.tm_base.specs.declared.message.Note.TheVariants as note
use Rattle.tm_base.specs.declared.message.Tag.{Tag}
use Rattle.tm_base.specs.declared.reply.Reply.{Reply}
use Rattle.tm_base.specs.declared.reply.Reply.TheVariants as reply
use Rattle.vs_clock.specs.State.{heard_vector}
use Rattle.lock_table.specs.Tags.{without_txn}
use Rattle.master_model.specs.declared.session.Own.{Own}
use Rattle.master_model.specs.declared.session.Progress.{Progress}
use Rattle.master_model.specs.declared.session.Progress.TheVariants.{Active, Undoing, Ended}
use Rattle.master_model.specs.State.{Work, Answer, Effect, answers, says, ignored, writer_of, message, to_locks, durable, vector_of}

-- ---- own transactions

-- A transaction has ended once its end is durable.
abbrev pub is_over : ℕ → Progress → Bool
is_over durable Active = false
is_over durable Undoing = false
is_over durable (Ended committed seq) = nat_le seq durable

abbrev pub is_open_in : ℕ → ℕ → Own → Bool
is_open_in durable number own = nat_eq own.number number && not (is_over durable own.progress)

-- An own transaction is open: it is a session's, and hasn't ended.
abbrev pub is_open : Work → ℕ → Bool
is_open w number = list_any (λ e. is_open_in (durable w) number e.1) (fin.entries w.sessions)

-- An own transaction has ended: it was begun, and isn't open.
abbrev pub has_ended : Work → ℕ → Bool
has_ended w number = nat_le 1 number && nat_le number w.begun && not (is_open w number)

-- ---- all transactions

abbrev pub is_own : Work → Txn → Bool
is_own w t = nat_eq t.writer.0 (writer_of w)

-- A transaction is known to have ended. Of another writer's only its fate tells.
abbrev pub is_ended : Work → Txn → Bool
is_ended w t = cond (is_own w t) (has_ended w t.number) (sets.contains w.ended t)

-- What a row or a tag of a transaction is to another one: it binds nobody where it is known to have ended; else it
-- locks where it is known to be open; and else its fate is to be asked for.
pub data Standing : Type 0 where
  Free : Standing
  Locks : Standing
  Unknown : Standing

-- By whether it is an own one, whether it has ended, and whether it was told to be open.
abbrev pub standing_by : Bool → Bool → Bool → Standing
standing_by own true told = Free
standing_by true false told = Locks
standing_by false false true = Locks
standing_by false false false = Unknown

abbrev pub standing : Work → Txn → Standing
standing w t = standing_by (is_own w t) (is_ended w t) (sets.contains w.told_open t)

-- Once an answer has named it, it is to be told again that the transaction is open.
abbrev pub named : Work → Txn → Work
named w t = record w { told_open = sets.remove w.told_open t }

-- The answer to a command that a transaction stands in the way of, if it does: that it locks, in these words, or
-- that its fate is asked for.
abbrev pub blocked_by : Work → Txn → Reply → Standing → Option Answer
blocked_by w t locked Free = None
blocked_by w t locked Locks = Some (says (named w t) locked)
blocked_by w t locked Unknown = Some (answers w (reply.AgainFate t) (to_locks w (note.Ask t w.number) ∷ []))

abbrev pub blocked : Work → Txn → Reply → Option Answer
blocked w t locked = blocked_by w t locked (standing w t)

-- The same of the first of some tags that stands in the way, in words that name the tag.
abbrev pub or_later : Option Answer → Option Answer → Option Answer
or_later None later = later
or_later (Some answer) later = Some answer

abbrev pub blocked_by_tags : Work → (Tag → Reply) → List Tag → Option Answer
blocked_by_tags w words [] = None
blocked_by_tags w words (t ∷ ts) = or_later (blocked w t.txn (words t)) (blocked_by_tags w words ts)

-- A command goes on where nothing stands in its way.
abbrev pub unless : Option Answer → Answer → Answer
unless (Some answer) goes_on = answer
unless None goes_on = goes_on

-- ---- fates are asked for and told

-- A master that asks is told whether a transaction of this writer has ended.
abbrev pub on_ask_own : Work → Txn → ℕ → Bool → Effect
on_ask_own w t master true = (w, message w (Master master) (note.Fate t (has_ended w t.number) (vector_of w)) ∷ [])
on_ask_own w t master false = ignored w

abbrev pub on_ask : Work → Txn → ℕ → Effect
on_ask w t master = on_ask_own w t master (is_own w t)

-- An end is kept for ever, and the transaction's tags go. That it is open is noted, unless its end is known.
abbrev pub with_end : Work → Txn → Work
with_end w t = record w { ended = sets.insert w.ended t; told_open = sets.remove w.told_open t; tags = without_txn w.tags t }

abbrev pub with_mark : Work → Txn → Bool → Work
with_mark w t true = w
with_mark w t false = record w { told_open = sets.insert w.told_open t }

abbrev pub with_fate : Work → Txn → Bool → Work
with_fate w t true = with_end w t
with_fate w t false = with_mark w t (sets.contains w.ended t)

-- Only of other writers' transactions is a fate noted; what is known of each writer is heard in any case.
abbrev pub with_fate_of_other : Work → Txn → Bool → Bool → Work
with_fate_of_other w t ended true = w
with_fate_of_other w t ended false = with_fate w t ended

abbrev pub hears : Work → List VectorEntry → Work
hears w vector = record w { clock = heard_vector w.clock vector }

abbrev pub on_fate : Work → Txn → Bool → List VectorEntry → Effect
on_fate w t ended vector = (with_fate_of_other (hears w vector) t ended (is_own w t), [])
