-- What is true of every run of a log store.
use Rattle.std.specs.Prelude.{◌≡◌, ◌⊎◌, ◌+◌, ℕ, List, [], ◌∷◌, ◌++◌, length, slice_get, true}
use Rattle.std.specs.declared.option.Option.TheVariants.{Some}
use Rattle.tm_data.specs.declared.log.Group.{Group}
use Rattle.tm_base.specs.declared.message.Message.{Message}
use Rattle.tm_base.specs.declared.message.Note.{Note}
use Rattle.tm_base.specs.declared.message.Note.TheVariants as note
use Rattle.store_model.specs.LogState.{Log, LogStoreState, start, log_of}
use Rattle.store_model.specs.LogStep.{Effect, stepped, ticked}

-- ---- runs

-- What comes to a log store.
pub data LogInput : Type 0 where
  Hears : Message → LogInput
  Ticks : LogInput

abbrev pub taken : LogStoreState → LogInput → Effect
taken s (Hears m) = stepped s m
taken s Ticks = ticked s

-- The state after several inputs.
abbrev pub run : LogStoreState → List LogInput → LogStoreState
run s [] = s
run s (input ∷ inputs) = run (taken s input).0 inputs

-- ---- the list of a writer

-- Each group is that writer's, and has the number of its place, counted from 1: there are no gaps.
abbrev pub IsLogOf : ℕ → List Group → Type 0
IsLogOf writer groups = (i : ℕ) (g : Group) → slice_get groups i ≡ Some g → (g.writer.0 ≡ writer) × (g.seq ≡ i + 1)

pub record Facts (s : LogStoreState) : Type 0 where
  pub lists : (writer : ℕ) → IsLogOf writer (log_of s writer).groups

-- The log is sealed and has so many groups.
pub record IsSealedWith (log : Log) (len : ℕ) : Type 0 where
  pub sealed : log.is_sealed ≡ true
  pub long : length log.groups ≡ len

-- ---- the laws

-- The content is one list of groups for each writer, without gaps.
abbrev pub HasOneListEach : Type 0
HasOneListEach = (number : ℕ) (inputs : List LogInput) (writer : ℕ) → IsLogOf writer (log_of (run (start number) inputs) writer).groups

-- A sealed log stays as it is, whatever comes.
abbrev pub SealedStays : Type 0
SealedStays =
    (number : ℕ) (inputs more : List LogInput) (writer : ℕ) (len : ℕ)
    → IsSealedWith (log_of (run (start number) inputs) writer) len
    → (log_of (run (start number) (inputs ++ more)) writer).groups ≡ (log_of (run (start number) inputs) writer).groups

-- A message names the length of a writer's sealed log.
abbrev pub NamesIn : Note → ℕ → ℕ → Type 0
NamesIn (note.SealedAt named at) writer len = (named.0 ≡ writer) × (at ≡ len)
NamesIn said writer len = ⊥

-- One of these messages does.
abbrev pub Names : List Message → ℕ → ℕ → Type 0
Names [] writer len = ⊥
Names (m ∷ ms) writer len = NamesIn m.note writer len ⊎ Names ms writer len

-- A length that was named stays the log's, whatever comes.
abbrev pub NamedStays : Type 0
NamedStays =
    (number : ℕ) (inputs : List LogInput) (input : LogInput) (more : List LogInput) (writer : ℕ) (len : ℕ)
    → Names (taken (run (start number) inputs) input).1 writer len
    → length (log_of (run (taken (run (start number) inputs) input).0 more) writer).groups ≡ len
