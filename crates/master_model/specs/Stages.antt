-- How a recovery moves from stage to stage, by what comes, and what is sent at each stage.
use Rattle.std.specs.Prelude.{◌≡◌, ◌⊎◌, ◌≤◌, ◌<◌, ℕ, ◌+◌, ◌-◌, Bool, true, false, nat_eq, List, ◌++◌, length}
use Rattle.std.specs.List.{AllByRecursion}
use Rattle.std.specs.declared.option.Option.{Option}
use Rattle.std.specs.declared.option.Option.TheVariants.{None, Some}
use Rattle.tm_data.specs.declared.log.Group.{Group}
use Rattle.tm_data.specs.declared.vector.VectorEntry.{VectorEntry}
use Rattle.tm_data.specs.Vectors.{stamp_of}
use Rattle.vs_clock.specs.State as clock
use Rattle.tm_base.specs.declared.command.Command.{Command}
use Rattle.tm_base.specs.declared.command.Command.TheVariants as command
use Rattle.tm_base.specs.declared.message.Message.{Message}
use Rattle.tm_base.specs.declared.message.Node.{Node}
use Rattle.tm_base.specs.declared.message.Node.TheVariants.{LogStore}
use Rattle.tm_base.specs.declared.message.Note.{Note}
use Rattle.tm_base.specs.declared.message.Note.TheVariants as note
use Rattle.tm_base.specs.declared.message.PageStamp.{PageStamp}
use Rattle.tm_base.specs.declared.message.RosterEntry.{RosterEntry}
use Rattle.master_model.specs.declared.recovery.Stage.{Stage}
use Rattle.master_model.specs.declared.recovery.Stage.TheVariants.{Seal, Close, Scan, Take, Undo, Told}
use Rattle.master_model.specs.State.{Life, Recovery, durable}
use Rattle.master_model.specs.Recovery.{entry_of, in_turn, is_last, is_recovered, pages_of, part_of, started, to_undo, writer_named}

-- ---- after a message

-- Groups of the writer came, of which those that are next in the closed log were read.
pub record Reads (n : Note) (old new : Recovery) (next most : ℕ) : Type 0 where
  pub groups : List Group
  pub says : n ≡ note.Groups (writer_named old.writer) groups
  pub scanned : new.scanned ≡ old.scanned ++ in_turn old.writer next most groups

-- How many were read.
abbrev pub read_count : Recovery → ℕ → ℕ → List Group → ℕ
read_count old next most groups = length (in_turn old.writer next most groups)

-- From a stage to another one, by a message. The first log store that has sealed the log asks for the close; where the
-- lock manager closed it, its groups are read; once all are, the pages are taken over part by part; and after the last
-- part the rows are undone.
abbrev pub StageBy : Node → Note → Recovery → Recovery → Stage → Stage → Type 0
StageBy from n old new Seal (Close store most) =
    (from ≡ LogStore store) × (n ≡ note.SealedAt (writer_named old.writer) most) × (new.scanned ≡ old.scanned)
StageBy from n old new (Close asked_store asked) (Scan store most next) =
    (n ≡ note.Closed (writer_named old.writer) most store) × (next ≡ 1) × (1 ≤ most) × (new.scanned ≡ old.scanned)
StageBy from n old new (Close asked_store asked) (Take part rest) =
    (store : ℕ) × (n ≡ note.Closed (writer_named old.writer) 0 store) × (part ≡ 1) × (rest ≡ is_last (pages_of new.scanned) 1) × (new.scanned ≡ old.scanned)
StageBy from n old new (Scan store most next) (Scan same_store same_most after) =
    (r : Reads n old new next most) × (same_store ≡ store) × (same_most ≡ most) × (after ≡ next + read_count old next most r.groups) × (after ≤ most)
StageBy from n old new (Scan store most next) (Take part rest) =
    (r : Reads n old new next most) × (most < next + read_count old next most r.groups) × (part ≡ 1) × (rest ≡ is_last (pages_of new.scanned) 1)
StageBy from n old new (Take part rest) (Take later last) =
    (n ≡ note.Taken (writer_named old.writer) part) × (later ≡ part + 1) × (last ≡ is_last (pages_of new.scanned) later) × (new.scanned ≡ old.scanned)
StageBy from n old new (Take part rest) (Undo left) =
    (n ≡ note.Taken (writer_named old.writer) part) × (rest ≡ true) × (left ≡ length (to_undo new.writer new.scanned)) × (new.scanned ≡ old.scanned)
StageBy from n old new stage other = ⊥

pub record MovesBy (from : Node) (n : Note) (old new : Recovery) : Type 0 where
  pub writer : new.writer ≡ old.writer
  pub stage : StageBy from n old new old.stage new.stage

-- A roster says that a writer is recovered.
pub record SaysRecovered (n : Note) (writer : ℕ) : Type 0 where
  pub entries : List RosterEntry
  pub entry : RosterEntry
  pub says : n ≡ note.Roster entries
  pub listed : entry_of entries writer ≡ Some entry
  pub recovered : is_recovered entry.state ≡ true

-- A recovery is over once the writer is recovered.
abbrev pub IsOverBy : Note → ℕ → Type 0
IsOverBy n writer = ((vector : List VectorEntry) × (n ≡ note.Recovered (writer_named writer) vector)) ⊎ SaysRecovered n writer

-- A message begins no recovery; it leaves one, moves it, or ends it.
abbrev pub RecoveryBy : Node → Note → Option Recovery → Option Recovery → Type 0
RecoveryBy from n None None = Unit {0}
RecoveryBy from n None (Some new) = ⊥
RecoveryBy from n (Some old) None = IsOverBy n old.writer
RecoveryBy from n (Some old) (Some new) = (new ≡ old) ⊎ MovesBy from n old new

-- ---- after a command

-- Rows are undone one by one; and the lock manager is told once all of that is durable.
abbrev pub StageAsked : Life → Stage → Stage → Type 0
StageAsked new (Undo left) (Undo fewer) = fewer ≡ left - 1
StageAsked new (Undo left) Told = new.undo_seq ≤ durable new.work
StageAsked new stage other = ⊥

pub record MovesAsked (l : Life) (old new : Recovery) : Type 0 where
  pub writer : new.writer ≡ old.writer
  pub scanned : new.scanned ≡ old.scanned
  pub stage : StageAsked l old.stage new.stage

-- The command begins a recovery of its writer, where none is under way; it ends none.
abbrev pub RecoveryAsked : Command → Life → Option Recovery → Option Recovery → Type 0
RecoveryAsked asked l None None = Unit {0}
RecoveryAsked asked l None (Some new) = (asked ≡ command.Recover (writer_named new.writer)) × (new ≡ started new.writer)
RecoveryAsked asked l (Some old) None = ⊥
RecoveryAsked asked l (Some old) (Some new) = (new ≡ old) ⊎ MovesAsked l old new

-- ---- a master

abbrev pub RecoveryGoes : Message → Option Life → Option Life → Type 0
RecoveryGoes m None None = Unit {0}
RecoveryGoes m None (Some new) = new.recovery ≡ None
RecoveryGoes m (Some old) None = ⊥
RecoveryGoes m (Some old) (Some new) = RecoveryBy m.from m.note old.recovery new.recovery

abbrev pub RecoveryIsAsked : Command → Option Life → Option Life → Type 0
RecoveryIsAsked asked None None = Unit {0}
RecoveryIsAsked asked None (Some new) = ⊥
RecoveryIsAsked asked (Some old) None = ⊥
RecoveryIsAsked asked (Some old) (Some new) = RecoveryAsked asked new old.recovery new.recovery

-- ---- what is sent

-- A recovery of a writer is under way, at a stage.
pub record IsAt (l : Life) (writer : ℕ) (stage : Stage) : Type 0 where
  pub recovery : Recovery
  pub under_way : l.recovery ≡ Some recovery
  pub writer_is : recovery.writer ≡ writer
  pub stage_is : recovery.stage ≡ stage

-- A part of the pages of the groups that were read is taken over, and it says whether it is the last one.
pub record TakesOver (l : Life) (writer part : ℕ) (rest : Bool) (listed : List PageStamp) : Type 0 where
  pub recovery : Recovery
  pub last : Bool
  pub under_way : l.recovery ≡ Some recovery
  pub writer_is : recovery.writer ≡ writer
  pub stage_is : recovery.stage ≡ Take part last
  pub rest_is : rest ≡ is_last (pages_of recovery.scanned) part
  pub listed_is : listed ≡ part_of (pages_of recovery.scanned) part

-- What a recovery's message says of its stage, by its kind. Others aren't a recovery's.
abbrev pub StageSaid : Life → Node → Note → Type 0
StageSaid l to (note.Seal writer) = IsAt l writer.0 Seal
StageSaid l to (note.Close writer most store) = IsAt l writer.0 (Close store most)
StageSaid l to (note.Fetch writer next) = (store : ℕ) × (most : ℕ) × (to ≡ LogStore store) × IsAt l writer.0 (Scan store most next)
StageSaid l to (note.Takeover writer part rest listed vector) = TakesOver l writer.0 part rest listed
StageSaid l to (note.Undone writer recoverer vector) = IsAt l writer.0 Told
StageSaid l to other = Unit {0}

abbrev pub StagesSaid : Life → List Message → Type 0
StagesSaid l messages = AllByRecursion (λ (m : Message). StageSaid l m.to m.note) messages

abbrev pub StagesAreSaid : Option Life → List Message → Type 0
StagesAreSaid None messages = Unit {0}
StagesAreSaid (Some l) messages = StagesSaid l messages

-- ---- what was read is heard

-- What a group tells was heard, and the group itself, but for what is of the own writer.
pub record GroupHeard (s : clock.State) (g : Group) : Type 0 where
  pub learnt : (q : ℕ) → nat_eq q s.writer ≡ false → stamp_of g.learnt q ≤ stamp_of s.heard q
  pub stamp : nat_eq g.writer.0 s.writer ≡ false → g.stamp.0 ≤ stamp_of s.heard g.writer.0

abbrev pub ScannedAreHeard : clock.State → Option Recovery → Type 0
ScannedAreHeard s None = Unit {0}
ScannedAreHeard s (Some r) = AllByRecursion (GroupHeard s) r.scanned

-- Each group of the closed log that was read was heard.
abbrev pub ReadAreHeard : Option Life → Type 0
ReadAreHeard None = Unit {0}
ReadAreHeard (Some l) = ScannedAreHeard l.work.clock l.recovery
