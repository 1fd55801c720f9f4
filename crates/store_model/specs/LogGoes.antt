-- How the state of a log store goes on, as far as old messages speak of it; a start goes on too.
use Rattle.std.specs.Prelude.{◌≡◌, ◌≤◌, ℕ, List, ◌++◌, true}
use Rattle.std.specs.declared.option.Option.TheVariants.{Some}
use Rattle.tm_data.specs.declared.log.Group.{Group}
use Rattle.tm_base.specs.declared.message.Note.{Note}
use Rattle.tm_base.specs.declared.message.Note.TheVariants as note
use Rattle.store_model.specs.LogState.{Log, LogStoreState, log_of, numbered}
use Rattle.store_model.specs.LogMoves.{GivesMark}

-- The new list begins with the old one.
abbrev pub IsFront : List Group → List Group → Type 0
IsFront old new = (more : List Group) × (new ≡ old ++ more)

-- A list only grows, and a sealed one stays as it is. Of the mark nothing is said here: a close may lower it, and a start
-- forgets what the journal doesn't have.
pub record LogGoes (old new : Log) : Type 0 where
  pub front : IsFront old.groups new.groups
  pub sealed : old.is_sealed ≡ true → (new.is_sealed ≡ true) × (new.groups ≡ old.groups)

pub record Goes (old new : LogStoreState) : Type 0 where
  pub number : new.number ≡ old.number
  pub logs : (writer : ℕ) → LogGoes (log_of old writer) (log_of new writer)

-- ---- against the logs of the writers

-- What a store has is of the writers' logs: each list is a front of the writer's log, and its mark is no more than what is
-- on every log store of it.
pub record IsOf (logs : ℕ → List Group) (hard : ℕ → ℕ) (s : LogStoreState) : Type 0 where
  pub lists : (writer : ℕ) → IsFront (log_of s writer).groups (logs writer)
  pub marks : (writer : ℕ) → (log_of s writer).mark ≤ hard writer

-- A message that comes is of them: an appended group is in the writer's log at its number, and a mark that is given is of
-- groups that are on every log store.
abbrev pub BringsGroup : (ℕ → List Group) → Note → Type 0
BringsGroup logs (note.Append g) = numbered (logs g.writer.0) g.seq ≡ Some g
BringsGroup logs other = Unit {0}

pub record BringsOf (logs : ℕ → List Group) (hard : ℕ → ℕ) (n : Note) : Type 0 where
  pub group : BringsGroup logs n
  pub marks : (writer mark : ℕ) → GivesMark n writer mark → mark ≤ hard writer

-- Logs and what is on every log store of them only grow.
pub record AreLonger (logs new_logs : ℕ → List Group) (hard new_hard : ℕ → ℕ) : Type 0 where
  pub lists : (writer : ℕ) → IsFront (logs writer) (new_logs writer)
  pub marks : (writer : ℕ) → hard writer ≤ new_hard writer
