-- What holds of the masters, of every life that joined, and of the lock manager that numbers them.
use Rattle.std.specs.Prelude.{◌≡◌, ◌≤◌, ◌⊎◌, ℕ, List, [], length, is_some}
use Rattle.std.specs.FinMap as fin
use Rattle.std.specs.FinSet as sets
use Rattle.std.specs.declared.option.Option.{Option}
use Rattle.std.specs.declared.option.Option.TheVariants.{None, Some}
use Rattle.tm_data.specs.declared.log.Group.{Group}
use Rattle.tm_data.specs.declared.transaction.Writer.{Writer}
use Rattle.lock_model.specs.declared.writer.WriterEntry.{WriterEntry}
use Rattle.tm_base.specs.declared.message.Message.{Message}
use Rattle.tm_base.specs.declared.message.Note.TheVariants as note
use Rattle.tm_base.specs.declared.message.RosterEntry.{RosterEntry}
use Rattle.lock_model.specs.Told.{MessageFact}
use Rattle.tm_base.specs.declared.message.Node.TheVariants.{LockManager}
use Rattle.world_model.specs.Nodes.{delivers_to}
use Rattle.lock_model.specs.State as locks
use Rattle.lock_model.specs.State.{at, page_in}
use Rattle.lease_desk.specs.Desk.{lease_of}
use Rattle.lock_model.specs.Runs.{LogEnd}
use Rattle.store_model.specs.LogState.{LogStoreState, log_of}
use Rattle.store_model.specs.LogFacts.{IsSealedWith}
use Rattle.master_model.specs.declared.recovery.Stage.{Stage}
use Rattle.master_model.specs.declared.recovery.Stage.TheVariants as stage
use Rattle.master_model.specs.Facts.{IsRestOf, WorkFacts}
use Rattle.master_model.specs.State.{Life, Recovery, State, writer_of}
use Rattle.world_model.specs.World.{World, or_zero}
use Rattle.world_laws.specs.Beside.{Beside, durable_by, log_by}
use Rattle.world_laws.specs.Kept.{IsOneOfThree, end_of, hard, locks_kept, log_kept}

-- ---- the lock manager

-- If it runs, its state is what its disk gives. So all else is said of that.
abbrev pub RunsAs : locks.State → Option locks.State → Type 0
RunsAs kept None = Unit {0}
RunsAs kept (Some s) = s ≡ kept

-- ---- boots

-- A writer's boot number is one that its master has had.
abbrev pub BootFacts : List (ℕ × WriterEntry) → (ℕ → ℕ) → Type 0
BootFacts writers boots = (writer : ℕ) (e : WriterEntry) → at writers writer ≡ Some e → (1 ≤ e.boot) × (e.boot ≤ boots e.master)

-- ---- recoveries

-- Where a writer's log ends: an end is asked for at a log store that is sealed there; later there is one for ever, and that
-- is read.
abbrev pub StageFact : (ℕ → LogStoreState) → Option LogEnd → ℕ → Stage → Type 0
StageFact stores end writer stage.Seal = Unit {0}
StageFact stores end writer (stage.Close store length) = IsOneOfThree store × IsSealedWith (log_of (stores store) writer) length
StageFact stores end writer (stage.Scan store length next) = end ≡ Some (record { length = length; store = store })
StageFact stores end writer other = (e : LogEnd) × (end ≡ Some e)

abbrev pub RecoveryFact : (ℕ → LogStoreState) → (ℕ → Option LogEnd) → Option Recovery → Type 0
RecoveryFact stores ends None = Unit {0}
RecoveryFact stores ends (Some r) = StageFact stores (ends r.writer) r.writer r.stage

-- ---- lives

-- The life's own log is what is left of all groups that it ever logged: it has those that it hasn't let go, with all that
-- is in them.
abbrev pub KeepsOf : Life → List Group → Type 0
KeepsOf l groups = IsRestOf groups l.work.log

-- The roster that a life keeps is one that the lock manager has told, or it has none.
pub record RosterTold (of_locks : locks.State) (entries : List RosterEntry) : Type 0 where
  pub message : Message
  pub says : message.note ≡ note.Roster entries
  pub fact : MessageFact of_locks message

abbrev pub RosterKept : locks.State → List RosterEntry → Type 0
RosterKept of_locks entries = (entries ≡ []) ⊎ RosterTold of_locks entries

-- A life that joined as a writer: the lock manager knows the writer, which is this master's, and the life has the facts of
-- one that began at the writer's start and logged these groups. This is said of its last state, whether its master runs or
-- not.
pub record LifeFact (of_locks : locks.State) (stores : ℕ → LogStoreState) (ends : ℕ → Option LogEnd) (log : List Group) (writer : ℕ) (l : Life) : Type 0 where
  pub named : writer_of l.work ≡ writer
  pub entry : WriterEntry
  pub known : at of_locks.writers writer ≡ Some entry
  pub master : entry.master ≡ l.work.number
  pub facts : WorkFacts entry.start.0 log l.work
  pub log_kept : KeepsOf l log
  -- it has had no lease of a page that the lock manager hasn't given
  pub epochs : (page : ℕ) → (lease_of l.work.leases page).epoch ≤ (page_in of_locks page).epoch
  pub recovery : RecoveryFact stores ends l.recovery
  pub roster : RosterKept of_locks l.roster

-- The life of a master that runs is the last state of its writer, which the lock manager numbered for this boot.
pub record JoinedFact (writers : List (ℕ × WriterEntry)) (b : Beside) (s : State) (l : Life) : Type 0 where
  pub last : fin.get b.lives (writer_of l.work) ≡ Some l
  pub number : l.work.number ≡ s.number
  pub entry : WriterEntry
  pub known : at writers (writer_of l.work) ≡ Some entry
  pub boot : entry.boot ≡ s.boot

-- Of one that hasn't joined yet: no life joined as a writer that was numbered for this boot.
abbrev pub JoinedAs : List (ℕ × WriterEntry) → Beside → State → Option Life → Type 0
JoinedAs writers b s None = (writer : ℕ) (e : WriterEntry) → at writers writer ≡ Some e → e.master ≡ s.number → e.boot ≡ s.boot → fin.get b.lives writer ≡ None
JoinedAs writers b s (Some l) = JoinedFact writers b s l

-- A master that runs has its last boot number. With the writers' numbering, one for each master and boot, no two masters
-- have one writer.
pub record MasterFact (writers : List (ℕ × WriterEntry)) (b : Beside) (boots number : ℕ) (s : State) : Type 0 where
  pub named : s.number ≡ number
  pub boot : s.boot ≡ boots
  pub first : 1 ≤ s.boot
  pub joined : JoinedAs writers b s s.life

-- ---- logs that end

-- A log that ends has at least what its master knew to be durable, and ends at one of the three log stores. So what stands
-- for ever never falls, at a close neither.
pub record EndFact (reached : ℕ) (end : LogEnd) : Type 0 where
  pub least : reached ≤ end.length
  pub store : IsOneOfThree end.store

-- ---- in the world

pub record LivesHold (w : World) (b : Beside) : Type 0 where
  pub lock : RunsAs (locks_kept w) w.lock
  pub boots : BootFacts (locks_kept w).writers (λ number. or_zero (fin.get w.boots number))
  pub lives : (writer : ℕ) (l : Life) → fin.get b.lives writer ≡ Some l → LifeFact (locks_kept w) (log_kept w) (end_of w) (log_by b writer) writer l
  -- without a life nothing was logged
  pub none : (writer : ℕ) → fin.get b.lives writer ≡ None → log_by b writer ≡ []
  pub masters : (number : ℕ) (s : State) → fin.get w.master number ≡ Some s → MasterFact (locks_kept w).writers b (or_zero (fin.get w.boots number)) number s
  pub ends : (writer : ℕ) (end : LogEnd) → end_of w writer ≡ Some end → EndFact (durable_by (fin.get b.lives writer)) end
  -- what is kept of the run has the same number of each writer
  pub past : (writer : ℕ) → or_zero (fin.get w.past.hard writer) ≡ hard w b writer
  -- and the same writers' logs have an end there
  pub closed : (writer : Writer) → sets.contains w.past.ended writer ≡ is_some (end_of w writer.0)

-- ---- the lock manager's own steps

-- A delivery to it leaves it as what its disk gives.
abbrev pub LockRuns : World → Type 0
LockRuns w = RunsAs (locks_kept w) w.lock

abbrev pub LockDeliveryRuns : Type 0
LockDeliveryRuns = (w : World) (m : Message) → LockRuns w → LockRuns (delivers_to w m LockManager).world
