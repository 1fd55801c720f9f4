-- What a master does: with a command, with a message, on a tick, and when it starts.
use Rattle.std.specs.Prelude.{ℕ, Bool, true, false, not, nat_eq, List, [], ◌∷◌, ◌++◌, length}
use Rattle.std.specs.FinSet as sets
use Rattle.std.specs.declared.option.Option.{Option}
use Rattle.std.specs.declared.option.Option.TheVariants.{None, Some}
use Rattle.tm_data.specs.declared.transaction.Writer.{Writer}
use Rattle.tm_base.specs.declared.command.Command.{Command}
use Rattle.tm_base.specs.declared.command.Command.TheVariants as command
use Rattle.tm_base.specs.declared.message.Message.{Message}
use Rattle.tm_base.specs.declared.message.Node.{Node}
use Rattle.tm_base.specs.declared.message.Node.TheVariants.{Master, LockManager}
use Rattle.tm_base.specs.declared.message.Note.{Note}
use Rattle.tm_base.specs.declared.message.Note.TheVariants as note
use Rattle.tm_base.specs.declared.message.RosterEntry.{RosterEntry}
use Rattle.tm_base.specs.declared.message.WriterState.{WriterState}
use Rattle.tm_base.specs.declared.message.WriterState.TheVariants as told
use Rattle.tm_base.specs.declared.reply.Reply.{Reply}
use Rattle.tm_base.specs.declared.reply.Reply.TheVariants as reply
use Rattle.vs_clock.specs.State.{heard_scalar}
use Rattle.master_model.specs.State.{State, Life, Recovery, Work, Answer, Effect, joined, writer_of}
use Rattle.master_model.specs.Fates.{on_ask, on_fate}
use Rattle.master_model.specs.Reads.{begin, get}
use Rattle.master_model.specs.Writes.{put}
use Rattle.master_model.specs.Ends.{commit, abort}
use Rattle.master_model.specs.Leases.{on_grant, on_fresh, on_page, on_recall, on_released}
use Rattle.master_model.specs.Acks.{appends, on_ack, on_want, ticked}
use Rattle.master_model.specs.Recovery.{LifeEffect, LifeAnswer, entry_of, is_recovered, on_closed, on_groups, on_recovered, on_sealed_from, on_taken, recover, unmoved}

-- ---- a master before it has joined

-- It registers with its boot number, and has no scalar yet.
abbrev pub registers : State → Message
registers s = record { from = Master s.number; to = LockManager; stamp = record { 0 = 0 }; note = note.Register s.boot }

abbrev pub waiting : ℕ → ℕ → ℕ → State
waiting number boot stores = record { number = number; boot = boot; stores = stores; life = None }

abbrev pub start : ℕ → ℕ → ℕ → State × List Message
start number boot stores = (waiting number boot stores, registers (waiting number boot stores) ∷ [])

-- Its writer number is that of its boot; the clock begins at the stamp of the message that tells it.
abbrev pub new_life : Work → Life
new_life w = record { work = w; roster = []; recovered = sets.empty; recovery = None; undo_seq = 0; fenced = false }

abbrev pub joins_if : State → Writer → ℕ → Bool → State
joins_if s writer stamp true = record s { life = Some (new_life (joined s.number s.stores writer stamp)) }
joins_if s writer stamp false = s

abbrev pub joins : State → ℕ → Note → State
joins s stamp (note.Registered boot writer) = joins_if s writer stamp (nat_eq boot s.boot)
joins s stamp other = s

-- ---- a message to a master that has joined

abbrev pub works : Life → Effect → LifeEffect
works l (work, messages) = (record l { work = work }, messages)

-- What names a writer counts where that is the own one.
abbrev pub if_own : Life → Bool → Effect → LifeEffect
if_own l true effect = works l effect
if_own l false effect = unmoved l

abbrev pub own : Life → Writer → Effect → LifeEffect
own l writer effect = if_own l (nat_eq writer.0 (writer_of l.work)) effect

abbrev pub fence : Life → Life
fence l = record l { fenced = true }

-- The own log is sealed: the writer is lost.
abbrev pub on_sealed_own : Life → Bool → LifeEffect
on_sealed_own l true = (fence l, [])
on_sealed_own l false = unmoved l

-- A roster is kept. It may say that the own writer is closed or recovered, or that the one under recovery is
-- recovered.
abbrev pub is_live : WriterState → Bool
is_live told.Live = true
is_live told.Closed = false
is_live told.Recovered = false

abbrev pub fenced_by : Life → Option RosterEntry → Life
fenced_by l None = l
fenced_by l (Some e) = record l { fenced = not (is_live e.state) }

abbrev pub over_where : Option Recovery → Bool → Option Recovery
over_where recovery true = None
over_where recovery false = recovery

abbrev pub over_by : Option Recovery → Option RosterEntry → Option Recovery
over_by recovery None = recovery
over_by recovery (Some e) = over_where recovery (is_recovered e.state)

abbrev pub writer_under : Option Recovery → ℕ
writer_under None = 0
writer_under (Some r) = r.writer

abbrev pub on_roster : Life → List RosterEntry → LifeEffect
on_roster l entries =
    let kept = record l { roster = entries; recovery = over_by l.recovery (entry_of entries (writer_under l.recovery)) } in
    (fenced_by kept (entry_of entries (writer_of l.work)), [])

abbrev pub on_want_of : Life → Option Writer → ℕ → LifeEffect
on_want_of l None wanted = unmoved l
on_want_of l (Some writer) wanted = own l writer (on_want l.work wanted)

-- By the kind; the stamp is the message's, which a Want asks for.
abbrev pub on_note : Life → Node → ℕ → Note → LifeEffect
on_note l from stamp (note.Ack writer seq) = own l writer (on_ack l.work from seq)
on_note l from stamp (note.Sealed writer length) = on_sealed_own l (nat_eq writer.0 (writer_of l.work))
on_note l from stamp (note.Grant writer page epoch of tags vector) = own l writer (on_grant l.work page epoch of tags vector)
on_note l from stamp (note.FreshIs writer nth page) = own l writer (on_fresh l.work nth page)
on_note l from stamp (note.Recall writer page epoch) = own l writer (on_recall l.work page.0 epoch)
on_note l from stamp (note.Released writer page epoch) = own l writer (on_released l.work page.0 epoch)
on_note l from stamp (note.PageIs image) = works l (on_page l.work image)
on_note l from stamp (note.Ask txn master) = works l (on_ask l.work txn master)
on_note l from stamp (note.Fate txn ended vector) = works l (on_fate l.work txn ended vector)
on_note l from stamp (note.Roster entries) = on_roster l entries
on_note l from stamp (note.Want writer) = on_want_of l writer stamp
on_note l from stamp (note.SealedAt writer length) = on_sealed_from l writer.0 length from
on_note l from stamp (note.Closed writer length store) = on_closed l writer.0 store length
on_note l from stamp (note.Groups writer groups) = on_groups l writer.0 groups
on_note l from stamp (note.Taken writer part) = on_taken l writer.0 part
on_note l from stamp (note.Recovered writer vector) = on_recovered l writer
on_note l from stamp other = unmoved l

-- The stamp of every message is heard, also of one that is ignored (Lamport 1978).
abbrev pub heard : Life → ℕ → Life
heard l stamp = record l { work = record l.work { clock = heard_scalar l.work.clock stamp } }

abbrev pub lives : State → LifeEffect → State × List Message
lives s (life, messages) = (record s { life = Some life }, messages)

-- A master that is fenced does nothing.
abbrev pub step_in : State → Life → Message → Bool → State × List Message
step_in s l m true = (s, [])
step_in s l m false = lives s (on_note (heard l m.stamp.0) m.from m.stamp.0 m.note)

abbrev pub step_by : State → Message → Option Life → State × List Message
step_by s m None = (joins s m.stamp.0 m.note, [])
step_by s m (Some l) = step_in s l m l.fenced

abbrev pub step : State → Message → State × List Message
step s m = step_by s m s.life

-- ---- a command

abbrev pub from_work : Life → Answer → LifeAnswer
from_work l a = record { life = record l { work = a.work }; reply = a.reply; groups = a.groups; messages = a.messages }

abbrev pub commanded : Life → ℕ → Command → LifeAnswer
commanded l session command.Begin = from_work l (begin l.work session)
commanded l session (command.Get table key) = from_work l (get l.work session table key)
commanded l session (command.Put table key value) = from_work l (put l.work session table key (Some value))
commanded l session (command.Del table key) = from_work l (put l.work session table key None)
commanded l session command.Commit = from_work l (commit l.work session)
commanded l session command.Abort = from_work l (abort l.work session)
commanded l session (command.Recover writer) = recover l writer

-- After a command: the state, the reply, and what is sent: the groups that were logged, and what goes besides.
abbrev pub Commanded : Type 0
Commanded = State × Reply × List Message

abbrev pub answered : State → LifeAnswer → Commanded
answered s a = (record s { life = Some a.life }, a.reply, appends a.life.work a.groups ++ a.messages)

abbrev pub command_in : State → Life → ℕ → Command → Bool → Commanded
command_in s l session asked true = (s, reply.Fenced, [])
command_in s l session asked false = answered s (commanded l session asked)

abbrev pub command_by : State → ℕ → Command → Option Life → Commanded
command_by s session asked None = (s, reply.NotJoined, [])
command_by s session asked (Some l) = command_in s l session asked l.fenced

abbrev pub on_command : State → ℕ → Command → Commanded
on_command s session asked = command_by s session asked s.life

-- ---- a tick

abbrev pub tick_in : Life → Bool → List Message
tick_in l true = []
tick_in l false = ticked l.work

abbrev pub tick_by : State → Option Life → List Message
tick_by s None = registers s ∷ []
tick_by s (Some l) = tick_in l l.fenced

abbrev pub tick : State → List Message
tick s = tick_by s s.life
