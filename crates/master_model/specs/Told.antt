-- What a master's messages say when they are sent.
use Rattle.std.specs.Prelude.{◌≡◌, ◌⊎◌, ◌≤◌, ℕ, ◌+◌, ◌-◌, true, false, List, slice_get}
use Rattle.std.specs.List.{AllByRecursion, Contains}
use Rattle.std.specs.FinMap as fin
use Rattle.std.specs.declared.option.Option.{Option}
use Rattle.std.specs.declared.option.Option.TheVariants.{None, Some}
use Rattle.tm_data.specs.declared.log.Group.{Group}
use Rattle.tm_base.specs.declared.message.Message.{Message}
use Rattle.tm_base.specs.declared.message.Node.{Node}
use Rattle.tm_base.specs.declared.message.Node.TheVariants.{Master, LogStore, LockManager}
use Rattle.tm_base.specs.declared.message.Note.{Note}
use Rattle.tm_base.specs.declared.message.Note.TheVariants as note
use Rattle.lease_desk.specs.declared.lease.Lease.TheVariants as lease
use Rattle.lease_desk.specs.Desk.{is_releasing, lease_of}
use Rattle.master_model.specs.declared.left.Left.{Left}
use Rattle.master_model.specs.State.{Work, Life, State, durable, store_of, vector_of}
use Rattle.master_model.specs.Fates.{has_ended, is_own}
use Rattle.master_model.specs.Facts.{EndIsDurable, groups_of, whole_of}
use Rattle.master_model.specs.Goes.{rank}

-- One of the three.
abbrev pub IsLogStore : Node → Type 0
IsLogStore to = (to ≡ LogStore 1) ⊎ ((to ≡ LogStore 2) ⊎ (to ≡ LogStore 3))

-- A message of a writer's, by its kind: to whom it goes, and what it says of the writer after the step.
abbrev pub NoteIs : Work → Node → Note → Type 0
-- a group of the own log
NoteIs w to (note.Append g) = IsLogStore to × Contains (groups_of w.log) g
NoteIs w to (note.Stable writer seq) = IsLogStore to × (writer ≡ w.log.writer) × (seq ≡ durable w)
-- a page that has no lease here
NoteIs w to (note.Request writer page) = (to ≡ LockManager) × (writer ≡ w.log.writer) × ((lease_of w.leases page.0).state ≡ lease.None)
NoteIs w to (note.RequestFresh writer nth) = (to ≡ LockManager) × (writer ≡ w.log.writer) × (nth ≡ w.fresh + 1)
-- what is kept of a page that is being given back
NoteIs w to (note.Release writer page epoch stamp tags vector) =
    (to ≡ LockManager) × (writer ≡ w.log.writer) × (fin.get w.left page.0 ≡ Some (record { epoch = epoch; stamp = stamp; tags = tags; vector = vector }))
-- a page that is held
NoteIs w to (note.ReadPage page) = (to ≡ store_of w page.0) × ((lease_of w.leases page.0).state ≡ lease.Held)
-- another writer's transaction is asked after, and an own one told of
NoteIs w to (note.Ask txn master) = (to ≡ LockManager) × (master ≡ w.number) × (is_own w txn ≡ false)
NoteIs w to (note.Fate txn ended vector) = (master : ℕ) × (to ≡ Master master) × (is_own w txn ≡ true) × (ended ≡ has_ended w txn.number) × (vector ≡ vector_of w)
-- of a writer that is being recovered
NoteIs w to (note.Seal writer) = IsLogStore to
NoteIs w to (note.Close writer groups store) = to ≡ LockManager
NoteIs w to (note.Fetch writer next) = (store : ℕ) × (to ≡ LogStore store)
NoteIs w to (note.Takeover writer part rest listed vector) = (to ≡ LockManager) × (vector ≡ vector_of w)
NoteIs w to (note.Undone writer recoverer vector) = (to ≡ LockManager) × (recoverer ≡ w.log.writer) × (vector ≡ vector_of w)
NoteIs w to (note.Want writer) = (to ≡ LockManager) × (writer ≡ None)
-- and no other
NoteIs w to other = ⊥

-- A page is asked for as of the stamp of its last change; every other message has the scalar.
abbrev pub StampIs : Work → ℕ → Note → Type 0
StampIs w stamp (note.ReadPage page) = stamp ≡ (lease_of w.leases page.0).stamp.0
StampIs w stamp other = stamp ≡ w.clock.scalar

pub record MessageIs (w : Work) (m : Message) : Type 0 where
  pub sender : m.from ≡ Master w.number
  pub stamp : StampIs w m.stamp.0 m.note
  pub says : NoteIs w m.to m.note

abbrev pub MessagesAre : Work → List Message → Type 0
MessagesAre w messages = AllByRecursion (MessageIs w) messages

-- A master that hasn't joined registers its boot number.
pub record Registers (s : State) (m : Message) : Type 0 where
  pub sender : m.from ≡ Master s.number
  pub to : m.to ≡ LockManager
  pub stamp : m.stamp.0 ≡ 0
  pub says : m.note ≡ note.Register s.boot

abbrev pub SentBy : State → Option Life → List Message → Type 0
SentBy s None messages = AllByRecursion (Registers s) messages
SentBy s (Some l) messages = MessagesAre l.work messages

-- What is sent in a step, by the state after it.
abbrev pub Sent : State → List Message → Type 0
Sent s messages = SentBy s s.life messages

-- ---- ever after

-- Of a page that was released: its lease has a later epoch, or it is over, or the page is being given back with what was
-- told.
pub record ReleaseFact (w : Work) (page epoch : ℕ) (body : Left) : Type 0 where
  pub epoch_seen : epoch ≤ (lease_of w.leases page).epoch
  pub given_back : (lease_of w.leases page).epoch ≡ epoch → 2 ≤ rank (lease_of w.leases page).state
  pub kept : (lease_of w.leases page).epoch ≡ epoch → is_releasing (lease_of w.leases page).state ≡ true → fin.get w.left page ≡ Some body

-- A group stands among a writer's groups at its number.
pub record IsLogged (groups : List Group) (g : Group) : Type 0 where
  pub from_one : 1 ≤ g.seq
  pub there : slice_get groups (g.seq - 1) ≡ Some g

-- What a writer's message says that stays so, by its kind, where it has logged these groups.
abbrev pub NoteFact : List Group → Work → Note → Type 0
NoteFact groups w (note.Append g) = (g.writer ≡ w.log.writer) × IsLogged groups g
NoteFact groups w (note.Stable writer seq) = (writer ≡ w.log.writer) × (seq ≤ durable w)
NoteFact groups w (note.Request writer page) = writer ≡ w.log.writer
NoteFact groups w (note.RequestFresh writer nth) = (writer ≡ w.log.writer) × (1 ≤ nth) × (nth ≤ w.fresh + 1)
NoteFact groups w (note.Release writer page epoch stamp tags vector) =
    (writer ≡ w.log.writer) × ReleaseFact w page.0 epoch (record { epoch = epoch; stamp = stamp; tags = tags; vector = vector })
NoteFact groups w (note.ReadPage page) = Unit {0}
NoteFact groups w (note.Ask txn master) = (master ≡ w.number) × (is_own w txn ≡ false)
-- a transaction that was told to have ended has a durable end
NoteFact groups w (note.Fate txn ended vector) = (is_own w txn ≡ true) × (ended ≡ true → EndIsDurable (whole_of groups w.log) txn.number)
-- a recovery's messages speak of another writer
NoteFact groups w (note.Seal writer) = Unit {0}
NoteFact groups w (note.Close writer length store) = Unit {0}
NoteFact groups w (note.Fetch writer next) = Unit {0}
NoteFact groups w (note.Takeover writer part rest listed vector) = Unit {0}
NoteFact groups w (note.Undone writer recoverer vector) = recoverer ≡ w.log.writer
NoteFact groups w (note.Want writer) = writer ≡ None
-- and no other is sent
NoteFact groups w other = ⊥

abbrev pub LifeSaid : List Group → Option Life → Note → Type 0
LifeSaid groups None n = ⊥
LifeSaid groups (Some l) n = NoteFact groups l.work n

-- A Register has the boot number, also once the master has joined.
abbrev pub SaidBy : List Group → State → Note → Type 0
SaidBy groups s (note.Register boot) = boot ≡ s.boot
SaidBy groups s other = LifeSaid groups s.life other

pub record MessageFact (groups : List Group) (s : State) (m : Message) : Type 0 where
  pub sender : m.from ≡ Master s.number
  pub said : SaidBy groups s m.note

-- The writer's master is this one, and knows as many page stores.
abbrev pub LifeIsNamed : ℕ → ℕ → Option Life → Type 0
LifeIsNamed number stores None = Unit {0}
LifeIsNamed number stores (Some l) = (l.work.number ≡ number) × (l.work.stores ≡ stores)

abbrev pub IsNamed : State → Type 0
IsNamed s = LifeIsNamed s.number s.stores s.life
