-- All that was ever sent can be spelled by the format of messages, as far as nodes take stamps and vectors from it, and each
-- node keeps what spells it.
use Rattle.std.specs.Prelude.{◌≡◌, ℕ, List, slice_get}
use Rattle.std.specs.List.{AllByRecursion}
use Rattle.std.specs.FinMap as fin
use Rattle.std.specs.declared.option.Option.TheVariants.{Some}
use Rattle.tm_base.specs.declared.message.Message.{Message}
use Rattle.tm_base.specs.declared.step.Step.{Step}
use Rattle.tm_base.specs.declared.step.Step.TheVariants as step
use Rattle.format_laws.specs.Kept.{LifeIsSpelled}
use Rattle.format_laws.specs.Spelled.{AllSpelled, CanBeSpelled, IsStamp}
use Rattle.master_model.specs.Facts.{Brings}
use Rattle.master_model.specs.State as master
use Rattle.replica_model.specs.State as replica
use Rattle.store_model.specs.LogState.{LogStoreState}
use Rattle.store_model.specs.PageState.{PageStoreState}
use Rattle.world_model.specs.World.{World}
use Rattle.world_model.specs.Step.{begin, world_step}
use Rattle.world_laws.specs.Beside.{Beside}
use Rattle.world_laws.specs.Invariant.{LogsHold}

-- ---- steps

-- A step that a schedule can write, as far as nodes take stamps from it: a page is asked for at a stamp up to 2^63 - 1. The
-- other numbers of a step may be any.
abbrev pub IsStep : Step → Type 0
IsStep (step.Page number page stamp) = IsStamp stamp.0
IsStep other = Unit {0}

abbrev pub AreSteps : List Step → Type 0
AreSteps steps = AllByRecursion IsStep steps

-- ---- in the world

pub record SpelledHolds (w : World) : Type 0 where
  pub sent : AllSpelled w.sent
  -- the lock manager's state comes of the messages on its disk
  pub journal : AllSpelled w.lock_disk.records
  pub masters : (number : ℕ) (s : master.State) → fin.get w.master number ≡ Some s → LifeIsSpelled s.life
  pub logs : (number : ℕ) (s : LogStoreState) → fin.get w.log number ≡ Some s → IsStamp s.scalar
  pub pages : (number : ℕ) (s : PageStoreState) → fin.get w.page number ≡ Some s → IsStamp s.scalar
  pub replicas : (number : ℕ) (s : replica.State) → fin.get w.replica number ≡ Some s → IsStamp s.scalar

-- ---- the laws

-- It holds at the beginning, and each step that a schedule can write keeps it, where what is said of logs holds.
abbrev pub BeginSpells : Type 0
BeginSpells = (masters page_stores replicas : ℕ) → SpelledHolds (begin masters page_stores replicas)

abbrev pub StepSpells : Type 0
StepSpells = (w : World) (b : Beside) (s : Step) → IsStep s → LogsHold w b → SpelledHolds w → SpelledHolds (world_step w s).world

-- Then each message that was ever sent can be spelled, with its groups, which are of the writers' logs.
abbrev pub AllCanBeSpelled : World → Type 0
AllCanBeSpelled w = (number : ℕ) (m : Message) → slice_get w.sent number ≡ Some m → CanBeSpelled m

abbrev pub SentCanBeSpelled : Type 0
SentCanBeSpelled = (w : World) (b : Beside) → LogsHold w b → SpelledHolds w → AllCanBeSpelled w

-- And such a message brings a master what it counts on.
abbrev pub SpelledBrings : Type 0
SpelledBrings = (m : Message) → CanBeSpelled m → Brings m
