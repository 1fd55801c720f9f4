-- What a step adds to what is kept of the run.
use Rattle.std.specs.Prelude.{ℕ, Bool, true, false, cond, not, ◌&&◌, is_some, nat_eq, nat_le, nat_lt, List, [], ◌∷◌, ◌++◌, filter_map, map}
use Rattle.std.specs.Ordering.{ordering_then}
use Rattle.std.specs.FinMap.{FinMap}
use Rattle.std.specs.FinMap as fin
use Rattle.std.specs.FinSet as sets
use Rattle.std.specs.declared.cmp.Ordering.{Ordering}
use Rattle.std.specs.declared.option.Option.{Option}
use Rattle.std.specs.declared.option.Option.TheVariants.{None, Some}
use Rattle.tm_data.specs.declared.image.Image.{Image}
use Rattle.tm_data.specs.declared.log.Group.{Group}
use Rattle.tm_data.specs.declared.row_map.RowKey.{RowKey}
use Rattle.tm_data.specs.declared.transaction.Txn.{Txn}
use Rattle.tm_data.specs.declared.transaction.Writer.{Writer}
use Rattle.tm_data.specs.Orders.{row_cmp, txn_cmp}
use Rattle.tm_base.specs.declared.command.Command.{Command}
use Rattle.tm_base.specs.declared.command.Command.TheVariants as command
use Rattle.tm_base.specs.declared.message.Message.{Message}
use Rattle.tm_base.specs.declared.message.Note.{Note}
use Rattle.tm_base.specs.declared.message.Note.TheVariants as note
use Rattle.tm_base.specs.declared.reply.Reply.{Reply}
use Rattle.tm_base.specs.declared.reply.Reply.TheVariants as reply
use Rattle.key_model.specs.declared.events.Event.{Event}
use Rattle.key_model.specs.declared.events.EventKind.{EventKind}
use Rattle.key_model.specs.declared.events.EventKind.TheVariants.{Put, End}
use Rattle.key_model.specs.declared.events.Ended.{Ended}
use Rattle.key_model.specs.declared.events.PutKey.{PutKey}
use Rattle.key_model.specs.declared.step.MachineStep.{MachineStep}
use Rattle.key_model.specs.declared.step.MachineStep.TheVariants.{Answered, Settle, Close, Recover}
use Rattle.key_model.specs.After.{stepped}
use Rattle.key_model.specs.Events.{after_close, is_by}
use Rattle.key_model.specs.Steps.{row_of}
use Rattle.history_model.specs.History.{events_of, read_by}
use Rattle.lock_model.specs.declared.writer.WriterEntry.{WriterEntry}
use Rattle.lock_model.specs.declared.writer.WriterStatus.{WriterStatus}
use Rattle.lock_model.specs.declared.writer.WriterStatus.TheVariants as status
use Rattle.lock_model.specs.State as locks
use Rattle.master_model.specs.declared.session.Own.{Own}
use Rattle.master_model.specs.Acks.{ends_between}
use Rattle.master_model.specs.Logging.{logged_since}
use Rattle.master_model.specs.State as master
use Rattle.master_model.specs.State.{durable, writer_of}
use Rattle.world_model.specs.World.{Past}

-- ---- the machine

-- It takes a step that it allows; another one changes nothing.
abbrev pub machine_step : Past → MachineStep → Past
machine_step p s = record p { machine = (stepped p.machine s).0; steps = p.steps ++ s ∷ [] }

abbrev pub machine_steps : Past → List MachineStep → Past
machine_steps p [] = p
machine_steps p (s ∷ ss) = machine_steps (machine_step p s) ss

-- A writer whose log has an end adds no event, and its number isn't raised.
abbrev pub is_closed : Past → Writer → Bool
is_closed p writer = sets.contains p.ended writer

abbrev pub with_events : Past → Writer → List Event → Past
with_events p writer events = cond (is_closed p writer) p (record p { events = p.events ++ events })

-- ---- a master's step

-- The groups that it logged: those that its log has behind the last number that it had.
abbrev pub logged : master.Work → master.Work → List Group
logged old new = logged_since old.log new.log

abbrev pub events_in : List Group → List Event
events_in [] = []
events_in (g ∷ gs) = events_of g ++ events_in gs

-- The ends that became durable at it, in the order of their numbers: they are in groups of the log before it, since the
-- log has let these go once they are durable. One that a close settled isn't settled again.
abbrev pub settles : Past → List (Txn × Bool) → List MachineStep
settles p [] = []
settles p (e ∷ es) = cond (is_some (fin.get p.machine.settled e.0)) (settles p es) (Settle e.0 e.1 ∷ settles p es)

abbrev pub with_hard : Past → Writer → ℕ → Past
with_hard p writer number = cond (is_closed p writer) p (record p { hard = fin.insert p.hard writer.0 number })

abbrev pub settled_if : Past → master.Work → master.Work → Bool → Past
settled_if p old new false = p
settled_if p old new true =
    with_hard (machine_steps p (settles p (ends_between old.log (durable old) (durable new)))) new.log.writer (durable new)

-- By the state of the writer before and after.
abbrev pub worked : Past → master.Work → master.Work → Past
worked p old new =
    settled_if (with_events p new.log.writer (events_in (logged old new))) old new (nat_lt (durable old) (durable new))

abbrev pub lived : Past → Option master.Life → Option master.Life → Past
lived p (Some old) (Some new) = worked p old.work new.work
lived p old new = p

-- ---- a command's step

-- A value that was told of a key which the transaction hasn't written was read.
abbrev pub read_if : Past → Writer → Own → RowKey → Past
read_if p writer own key =
    cond (fin.contains_key own.written key) p
    (with_events p writer (read_by writer (record { writer = writer; number = own.number }) key ∷ []))

abbrev pub read_in : Past → Writer → Option Own → RowKey → Past
read_in p writer None key = p
read_in p writer (Some own) key = read_if p writer own key

abbrev pub read_by_command : Past → master.Work → ℕ → Command → Reply → Past
read_by_command p w session (command.Get table key) (reply.Value value) = read_in p w.log.writer (fin.get w.sessions session) (row_of table key)
read_by_command p w session asked said = p

abbrev pub read_in_life : Past → Option master.Life → ℕ → Command → Reply → Past
read_in_life p None session asked said = p
read_in_life p (Some l) session asked said = read_by_command p l.work session asked said

abbrev pub writer_in : Option master.Life → Option Writer
writer_in None = None
writer_in (Some l) = Some l.work.log.writer

-- A command is a step of the machine, with its reply.
abbrev pub commanded : Past → Option master.Life → Option master.Life → ℕ → Command → Reply → Past
commanded p old new session asked said =
    machine_step (lived (read_in_life p old session asked said) old new) (Answered (writer_in new) session asked said)

-- ---- a step of the lock manager

-- The ends in the writer's groups up to the length, in order.
abbrev pub end_in : ℕ → ℕ → Event → EventKind → Option Ended
end_in writer most e (End t committed) = cond (is_by writer e && nat_le e.seq most) (Some (record { txn = t; committed = committed })) None
end_in writer most e other = None

abbrev pub ends_upto : ℕ → ℕ → List Event → List Ended
ends_upto writer most events = filter_map (λ e. end_in writer most e e.kind) events

-- The keys that the writer's own transactions have put there, ascending by transaction, table and key, each once.
pub record PutMark : Type 0 where
  pub txn : Txn
  pub row : RowKey

abbrev pub put_cmp : PutMark → PutMark → Ordering
put_cmp a b = ordering_then (txn_cmp a.txn b.txn) (row_cmp a.row b.row)

abbrev pub put_in : ℕ → ℕ → Event → EventKind → Option PutMark
put_in writer most e (Put t table key value) =
    cond (is_by writer e && nat_le e.seq most && nat_eq t.writer.0 writer) (Some (record { txn = t; row = row_of table key })) None
put_in writer most e other = None

abbrev pub put_key : PutMark → PutKey
put_key m = record { txn = m.txn; table = m.row.table; key = m.row.key }

-- A map from each to nothing: its keys are listed in their order.
abbrev pub marked : List PutMark → FinMap put_cmp (Unit {0})
marked [] = fin.empty
marked (m ∷ ms) = fin.insert (marked ms) m tt

abbrev pub puts_upto : ℕ → ℕ → List Event → List PutKey
puts_upto writer most events = map put_key (fin.keys (marked (filter_map (λ e. put_in writer most e e.kind) events)))

-- A close that is accepted: the machine closes the writer, the events past the length are struck, and the writer's number
-- is the length.
abbrev pub closes : Past → Writer → ℕ → Past
closes p writer most =
    let new = machine_step p (Close writer (ends_upto writer.0 most p.events) (puts_upto writer.0 most p.events)) in
    record new { events = after_close writer.0 most p.events; hard = fin.insert p.hard writer.0 most; ended = sets.insert p.ended writer }

abbrev pub recovers : Past → Writer → Past
recovers p writer = machine_step p (Recover writer)

-- By what the lock manager says of the writer before and after.
abbrev pub is_live : Option WriterEntry → Bool
is_live None = false
is_live (Some e) = locks.is_live e.status

abbrev pub is_recovered_status : WriterStatus → Bool
is_recovered_status (status.Recovered length store vector) = true
is_recovered_status other = false

abbrev pub is_recovered : Option WriterEntry → Bool
is_recovered None = false
is_recovered (Some e) = is_recovered_status e.status

abbrev pub managed_by : Past → locks.State → locks.State → Note → Past
managed_by p old new (note.Close writer most store) =
    cond (is_live (locks.at old.writers writer.0) && not (is_live (locks.at new.writers writer.0))) (closes p writer most) p
managed_by p old new (note.Undone writer recoverer vector) =
    cond (not (is_recovered (locks.at old.writers writer.0)) && is_recovered (locks.at new.writers writer.0)) (recovers p writer) p
managed_by p old new other = p

abbrev pub managed : Past → locks.State → locks.State → Message → Past
managed p old new m = managed_by p old new m.note

-- ---- pages that were answered

abbrev pub with_answer : Past → ℕ → Image → Past
with_answer p stamp image = record p { answers = p.answers ++ record { stamp = stamp; image = image } ∷ [] }
