-- What the messages of a log store say.
use Rattle.std.specs.Prelude.{◌≡◌, ◌<◌, ◌≤◌, ◌⊎◌, ℕ, ◌+◌, List, [], ◌∷◌, length, true, false, slice_get, max, sum_by}
use Rattle.std.specs.declared.option.Option.TheVariants.{None, Some}
use Rattle.tm_data.specs.declared.log.Group.{Group}
use Rattle.tm_base.specs.GroupSizes.{group_size}
use Rattle.tm_base.specs.declared.message.Message.{Message}
use Rattle.tm_base.specs.declared.message.Node.{Node}
use Rattle.tm_base.specs.declared.message.Node.TheVariants.{LogStore, LockManager}
use Rattle.tm_base.specs.declared.message.Note.{Note}
use Rattle.tm_base.specs.declared.message.Note.TheVariants as note
use Rattle.store_model.specs.LogState.{Log, LogStoreState, log_of, numbered}
use Rattle.store_model.specs.LogStep.{MAX_BYTES, HEAD_BYTES, same_group, stepped, ticked}
use Rattle.store_model.specs.LogFacts.{IsSealedWith}

-- ---- right after the step that sends a message

-- A group is held under its number: it, or one that is the same by `==`.
pub record HasGroup (log : Log) (g : Group) : Type 0 where
  pub held : Group
  pub there : numbered log.groups g.seq ≡ Some held
  pub same : (held ≡ g) ⊎ (same_group held g ≡ true)

-- A message of groups has at most 1 MiB, or one group.
abbrev pub IsWithin : List Group → Type 0
IsWithin groups = (HEAD_BYTES + sum_by group_size groups ≤ MAX_BYTES) ⊎ (length groups ≡ 1)

-- These are the writer's groups from a number on, one after another, each in its place and up to the mark.
pub record AreServed (log : Log) (first : ℕ) (groups : List Group) : Type 0 where
  pub places : (i : ℕ) (g : Group) → slice_get groups i ≡ Some g → (numbered log.groups (first + i) ≡ Some g) × (first + i ≤ log.mark)
  pub within : IsWithin groups
  pub some : 1 ≤ length groups

-- What a message says that answers another one, of the state after the step. No other message is sent in answer.
abbrev pub NoteIs : LogStoreState → Note → Note → Type 0
NoteIs s (note.Append g) (note.Ack writer seq) = (writer ≡ g.writer) × (seq ≡ g.seq) × HasGroup (log_of s g.writer.0) g
NoteIs s (note.Append g) (note.Gap writer next) = (writer ≡ g.writer) × (next ≡ length (log_of s g.writer.0).groups + 1) × (next < g.seq)
NoteIs s (note.Append g) (note.Sealed writer len) = (writer ≡ g.writer) × IsSealedWith (log_of s g.writer.0) len
NoteIs s (note.Seal named) (note.SealedAt writer len) = (writer ≡ named) × IsSealedWith (log_of s named.0) len
NoteIs s (note.Fetch named first) (note.Groups writer groups) = (writer ≡ named) × AreServed (log_of s named.0) (max 1 first) groups
NoteIs s cause said = ⊥

pub record MessageIs (s : LogStoreState) (from : Node) (cause : Note) (m : Message) : Type 0 where
  pub sender : m.from ≡ LogStore s.number
  pub receiver : m.to ≡ from
  pub stamp : m.stamp.0 ≡ s.scalar
  pub note : NoteIs s cause m.note

-- The answer to a message, with the scalar that has heard it.
abbrev pub reply : LogStoreState → Message → Note → List Message
reply s m said = record { from = LogStore s.number; to = m.from; stamp = record { 0 = max s.scalar m.stamp.0 }; note = said } ∷ []

-- How an append is answered. Of a group that is held and another one, nothing is said.
pub record AppendAnswered (s : LogStoreState) (m : Message) (g : Group) (log : Log) : Type 0 where
  pub sealed : log.is_sealed ≡ true → (stepped s m).1 ≡ reply s m (note.Sealed g.writer (length log.groups))
  pub next : log.is_sealed ≡ false → g.seq ≡ length log.groups + 1 → (stepped s m).1 ≡ reply s m (note.Ack g.writer g.seq)
  pub held : log.is_sealed ≡ false → (h : Group) → numbered log.groups g.seq ≡ Some h → same_group h g ≡ true → (stepped s m).1 ≡ reply s m (note.Ack g.writer g.seq)
  pub above : log.is_sealed ≡ false → length log.groups + 1 < g.seq → (stepped s m).1 ≡ reply s m (note.Gap g.writer (length log.groups + 1))

-- What is answered in any case: an append as above, a seal by the length; and who asks for groups from a number on that is
-- held and within the mark is sent some.
abbrev pub IsAnswered : LogStoreState → Message → Note → Type 0
IsAnswered s m (note.Append g) = AppendAnswered s m g (log_of s g.writer.0)
IsAnswered s m (note.Seal writer) = (stepped s m).1 ≡ reply s m (note.SealedAt writer (length (log_of s writer.0).groups))
IsAnswered s m (note.Fetch writer first) =
    max 1 first ≤ (log_of s writer.0).mark
    → max 1 first ≤ length (log_of s writer.0).groups
    → (groups : List Group) × ((stepped s m).1 ≡ reply s m (note.Groups writer groups))
IsAnswered s m other = Unit {0}

-- On a tick the lock manager is asked for the roster, and nothing else is sent.
abbrev pub AsksRoster : LogStoreState → Type 0
AsksRoster s = (ticked s).1 ≡ record { from = LogStore s.number; to = LockManager; stamp = record { 0 = s.scalar }; note = note.Want None } ∷ []

-- ---- ever after

-- Groups that were served are the writer's, one after another from a number on, each in its place, and on every log store.
pub record WereServed (log : Log) (hard : ℕ) (groups : List Group) : Type 0 where
  pub first : ℕ
  pub least : 1 ≤ first
  pub places : (i : ℕ) (g : Group) → slice_get groups i ≡ Some g → (numbered log.groups (first + i) ≡ Some g) × (first + i ≤ hard)

-- What a message says that was ever sent. `hard` is how many groups of each writer are on every log store.
abbrev pub NoteFact : LogStoreState → (ℕ → ℕ) → Note → Type 0
NoteFact s hard (note.Ack writer seq) = (g : Group) × (numbered (log_of s writer.0).groups seq ≡ Some g)
NoteFact s hard (note.Gap writer next) = next ≤ length (log_of s writer.0).groups + 1
NoteFact s hard (note.Sealed writer len) = IsSealedWith (log_of s writer.0) len
NoteFact s hard (note.SealedAt writer len) = IsSealedWith (log_of s writer.0) len
NoteFact s hard (note.Groups writer groups) = WereServed (log_of s writer.0) (hard writer.0) groups
NoteFact s hard (note.Want None) = Unit {0}
NoteFact s hard other = ⊥

pub record MessageFact (s : LogStoreState) (hard : ℕ → ℕ) (m : Message) : Type 0 where
  pub sender : m.from ≡ LogStore s.number
  pub note : NoteFact s hard m.note
