-- The state of a log store.
use Rattle.std.specs.Prelude.{ℕ, ◌-◌, List, [], ◌∷◌, Bool, false, cond, nat_eq, if◌then◌else◌, slice_get}
use Rattle.std.specs.Map.{lookup}
use Rattle.std.specs.declared.option.Option.{Option}
use Rattle.std.specs.declared.option.Option.TheVariants.{None, Some}
use Rattle.tm_data.specs.declared.log.Group.{Group}

-- What a log store keeps of one writer.
pub record Log : Type 0 where
  -- the groups held, the first of number 1
  pub groups : List Group
  -- groups up to this number are on every log store, so that they may be served
  pub mark : ℕ
  -- whether no more groups are taken
  pub is_sealed : Bool

pub record LogStoreState : Type 0 where
  -- which of the log stores it is
  pub number : ℕ
  -- the greatest scalar heard
  pub scalar : ℕ
  -- by the writer's number: the logs, in the order in which the writers were first heard of
  pub logs : List (ℕ × Log)

-- The state of a log store that has heard nothing.
abbrev pub start : ℕ → LogStoreState
start number = record { number = number; scalar = 0; logs = [] }

-- ---- logs

-- A log of which nothing is known.
abbrev pub empty_log : Log
empty_log = record { groups = []; mark = 0; is_sealed = false }

abbrev pub or_empty : Option Log → Log
or_empty None = empty_log
or_empty (Some log) = log

-- The log of a writer.
abbrev pub log_in : List (ℕ × Log) → ℕ → Log
log_in logs writer = or_empty (lookup (nat_eq writer) logs)

abbrev pub log_of : LogStoreState → ℕ → Log
log_of s writer = log_in s.logs writer

-- The logs with another one of a writer: one that is there is replaced in its place, a new one is last.
abbrev pub put : List (ℕ × Log) → ℕ → Log → List (ℕ × Log)
put [] writer log = (writer, log) ∷ []
put (e ∷ es) writer log = if nat_eq writer e.0 then (e.0, log) ∷ es else e ∷ put es writer log

abbrev pub with_log : LogStoreState → ℕ → Log → LogStoreState
with_log s writer log = record s { logs = put s.logs writer log }

-- The group of a number, if it is held. Groups are numbered from 1.
abbrev pub numbered : List Group → ℕ → Option Group
numbered groups seq = cond (nat_eq seq 0) None (slice_get groups (seq - 1))
