-- What holds of every run of the world, from its beginning.
use Rattle.std.specs.Prelude.{◌≡◌, ◌≤◌, ℕ, ◌+◌, List, length, slice_get, false}
use Rattle.std.specs.FinMap as fin
use Rattle.std.specs.declared.option.Option.TheVariants.{Some}
use Rattle.tm_data.specs.declared.log.Group.{Group}
use Rattle.tm_base.specs.declared.message.Message.{Message}
use Rattle.tm_base.specs.declared.message.Node.{Node}
use Rattle.tm_base.specs.declared.message.Node.TheVariants.{Master, LogStore, LockManager}
use Rattle.tm_base.specs.declared.message.Note.{Note}
use Rattle.tm_base.specs.declared.message.Note.TheVariants as note
use Rattle.tm_base.specs.declared.message.RosterEntry.{RosterEntry}
use Rattle.tm_base.specs.declared.step.Step.{Step}
use Rattle.lock_model.specs.declared.writer.WriterEntry.{WriterEntry}
use Rattle.lock_model.specs.Runs.{LogEnd, told_of}
use Rattle.lock_model.specs.State.{at}
use Rattle.store_model.specs.LogFacts.{IsSealedWith}
use Rattle.store_model.specs.LogGoes.{IsFront, LogGoes}
use Rattle.store_model.specs.LogState.{log_of, numbered}
use Rattle.store_model.specs.PageState.{is_live}
use Rattle.world_model.specs.World.{World}
use Rattle.world_model.specs.Step.{begin, run, world_step}
use Rattle.world_laws.specs.Beside.{Beside, after_step, after_steps, durable_by, log_by, nothing}
use Rattle.world_laws.specs.Invariant.{LogsHold}
use Rattle.world_laws.specs.Kept.{IsOneOfThree, end_of, hard, locks_kept, log_kept}
use Rattle.world_laws.specs.Messages.{ViewGoes, view}
use Rattle.world_laws.specs.Spelled.{AllCanBeSpelled, AreSteps, IsStep, SpelledHolds}

-- ---- the whole invariant

-- What is said of messages, logs and disks; and all that was ever sent can be spelled.
pub record Holds (w : World) (b : Beside) : Type 0 where
  pub logs : LogsHold w b
  pub spelled : SpelledHolds w

-- What a step or several lead to: all of it holds, and the world has gone on as old messages want it.
pub record HoldsOn (w : World) (b : Beside) (t : World) (c : Beside) : Type 0 where
  pub holds : Holds t c
  pub goes : ViewGoes (view w b) (view t c)

-- ---- every step, and every run

abbrev pub StepHolds : Type 0
StepHolds = (w : World) (b : Beside) (s : Step) → IsStep s → Holds w b → HoldsOn w b (world_step w s).world (after_step b w s)

-- And several, that a schedule can write: from any world in which all of it holds.
abbrev pub RunKeeps : Type 0
RunKeeps = (w : World) (b : Beside) (steps : List Step) → AreSteps steps → Holds w b → HoldsOn w b (run w steps) (after_steps b w steps)

-- A statement of a world and of what is kept beside it is so after every list of steps that a schedule can write, in a world
-- of so many nodes.
abbrev pub Always : (World → Beside → Type 0) → Type 0
Always P =
    (masters page_stores replicas : ℕ) (steps : List Step)
    → AreSteps steps
    → P (run (begin masters page_stores replicas) steps) (after_steps nothing (begin masters page_stores replicas) steps)

-- ---- what follows

-- A log store's list of a writer is a front of all groups that the writer ever logged.
abbrev pub ListsAreFronts : World → Beside → Type 0
ListsAreFronts w b = (store writer : ℕ) → IsFront (log_of (log_kept w store) writer).groups (log_by b writer)

-- A sealed list stays as it is, whatever comes; and a list that isn't loses no group.
abbrev pub ListsStay : Type 0
ListsStay =
    (w : World) (b : Beside) (steps : List Step) (store writer : ℕ)
    → AreSteps steps
    → Holds w b
    → LogGoes (log_of (log_kept w store) writer) (log_of (log_kept (run w steps) store) writer)

-- What stands of a writer's groups never falls, at a close neither.
abbrev pub NeverFalls : Type 0
NeverFalls = (w : World) (b : Beside) (steps : List Step) (writer : ℕ) → AreSteps steps → Holds w b → hard w b writer ≤ hard (run w steps) (after_steps b w steps) writer

-- Where a log ends it has all that its master knew to be durable, and the log store of the close is sealed there.
abbrev pub EndsKeepDurable : World → Beside → Type 0
EndsKeepDurable w b =
    (writer : ℕ) (end : LogEnd)
    → end_of w writer ≡ Some end
    → (durable_by (fin.get b.lives writer) ≤ end.length) × IsSealedWith (log_of (log_kept w end.store) writer) end.length

-- What a writer's master knew to be durable, each of the three log stores holds.
abbrev pub DurableIsHeld : World → Beside → Type 0
DurableIsHeld w b = (store writer : ℕ) → IsOneOfThree store → durable_by (fin.get b.lives writer) ≤ length (log_of (log_kept w store) writer).groups

-- There is one writer for each master and boot number.
abbrev pub WritersDiffer : World → Beside → Type 0
WritersDiffer w b =
    (v u : ℕ) (e f : WriterEntry) → at (locks_kept w).writers v ≡ Some e → at (locks_kept w).writers u ≡ Some f → e.master ≡ f.master → e.boot ≡ f.boot → v ≡ u

-- Each message that was ever sent can be spelled by the format of messages, with its groups.
abbrev pub SentAreSpelled : World → Beside → Type 0
SentAreSpelled w b = AllCanBeSpelled w

-- Groups that were served are the writer's own, one after another from a number on, and stand for ever: once the log has
-- an end they are within it.
pub record AreOwn (log : List Group) (most : ℕ) (groups : List Group) : Type 0 where
  pub first : ℕ
  pub places : (i : ℕ) (g : Group) → slice_get groups i ≡ Some g → (numbered log (first + i) ≡ Some g) × (first + i ≤ most)

-- An entry of a roster that isn't live has the length of the writer's log.
abbrev pub TellsEnds : World → List RosterEntry → Type 0
TellsEnds w entries =
    (writer : ℕ) (r : RosterEntry) → told_of entries writer ≡ Some r → is_live r.state ≡ false → (end : LogEnd) × (end_of w writer ≡ Some end) × (end.length ≡ r.length)

-- What a message that was ever sent says, by who sent it: an acknowledged group is held, a length that was named is that
-- store's, served groups are own and within what stands; an appended group is its writer's at its number, and a close is
-- of a store that is sealed there; and all that is told of a closed writer is the lock manager's one close.
abbrev pub Tells : World → Beside → Node → Note → Type 0
Tells w b (LogStore store) (note.Ack writer seq) = (g : Group) × (numbered (log_of (log_kept w store) writer.0).groups seq ≡ Some g)
Tells w b (LogStore store) (note.Sealed writer length) = IsSealedWith (log_of (log_kept w store) writer.0) length
Tells w b (LogStore store) (note.SealedAt writer length) = IsSealedWith (log_of (log_kept w store) writer.0) length
Tells w b (LogStore store) (note.Groups writer groups) = AreOwn (log_by b writer.0) (hard w b writer.0) groups
Tells w b (Master number) (note.Append g) = numbered (log_by b g.writer.0) g.seq ≡ Some g
Tells w b (Master number) (note.Stable writer seq) = seq ≤ hard w b writer.0
Tells w b (Master number) (note.Close writer length store) = IsSealedWith (log_of (log_kept w store) writer.0) length
Tells w b LockManager (note.Closed writer length store) = end_of w writer.0 ≡ Some (record { length = length; store = store })
Tells w b LockManager (note.Roster entries) = TellsEnds w entries
Tells w b from other = Unit {0}

abbrev pub AllTell : World → Beside → Type 0
AllTell w b = (number : ℕ) (m : Message) → slice_get w.sent number ≡ Some m → Tells w b m.from m.note
