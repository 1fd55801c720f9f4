-- What holds of the log stores against the logs of the writers, whether they run or are stopped.
use Rattle.std.specs.Prelude.{◌≡◌, ◌≤◌, ℕ, Bool, true, List, length}
use Rattle.std.specs.FinMap as fin
use Rattle.std.specs.declared.option.Option.{Option}
use Rattle.std.specs.declared.option.Option.TheVariants.{None, Some}
use Rattle.tm_data.specs.declared.log.Group.{Group}
use Rattle.tm_base.specs.declared.message.Message.{Message}
use Rattle.tm_base.specs.declared.message.Node.TheVariants.{LogStore}
use Rattle.lock_model.specs.Runs.{LogEnd}
use Rattle.store_model.specs.LogState.{LogStoreState, log_of}
use Rattle.store_model.specs.LogFacts.{Facts, IsSealedWith}
use Rattle.store_model.specs.LogGoes.{BringsOf, IsOf}
use Rattle.store_model.specs.LogStarts.{IsSame}
use Rattle.world_model.specs.World.{World}
use Rattle.world_model.specs.Nodes.{delivers_to}
use Rattle.world_laws.specs.Beside.{Beside, acked_by, log_by}
use Rattle.world_laws.specs.Kept.{end_of, hard, log_kept}

-- Of what a store's disk gives. `logs` are the writers' logs and `most` says how many groups of each stand for ever;
-- `acked` which groups a writer's master was told to be on this store; `ends` where logs end.
pub record DiskFacts (logs : ℕ → List Group) (most : ℕ → ℕ) (acked : ℕ → ℕ → Bool) (ends : ℕ → Option LogEnd) (number : ℕ) (kept : LogStoreState) : Type 0 where
  pub named : kept.number ≡ number
  -- one list of groups for each writer, without gaps; it is a front of the writer's log
  pub facts : Facts kept
  pub of : IsOf logs most kept
  -- what was acknowledged is held
  pub acks : (writer seq : ℕ) → acked writer seq ≡ true → seq ≤ length (log_of kept writer).groups
  -- a log that ends at this store is sealed here, at its end
  pub ended : (writer : ℕ) (end : LogEnd) → ends writer ≡ Some end → end.store ≡ number → IsSealedWith (log_of kept writer) end.length

-- A store that runs has the lists of its disk, sealed alike. Its marks and scalar are its own.
pub record RunsFrom (logs : ℕ → List Group) (most : ℕ → ℕ) (kept s : LogStoreState) : Type 0 where
  pub same : IsSame s kept
  pub facts : Facts s
  pub of : IsOf logs most s

abbrev pub RunsBy : (ℕ → List Group) → (ℕ → ℕ) → LogStoreState → Option LogStoreState → Type 0
RunsBy logs most kept None = Unit {0}
RunsBy logs most kept (Some s) = RunsFrom logs most kept s

pub record LogStoreFacts (logs : ℕ → List Group) (most : ℕ → ℕ) (acked : ℕ → ℕ → Bool) (ends : ℕ → Option LogEnd) (number : ℕ) (kept : LogStoreState) (running : Option LogStoreState) : Type 0 where
  pub disk : DiskFacts logs most acked ends number kept
  pub runs : RunsBy logs most kept running

-- ---- in the world

abbrev pub StoreHolds : World → Beside → ℕ → Type 0
StoreHolds w b number =
    LogStoreFacts (log_by b) (hard w b) (acked_by b number) (end_of w) number (log_kept w number) (fin.get w.log number)

abbrev pub StoresHold : World → Beside → Type 0
StoresHold w b = (number : ℕ) → StoreHolds w b number

-- A message that is delivered to a log store keeps these facts, if it brings none but the writers' groups and marks.
abbrev pub StoreDeliveryKeeps : Type 0
StoreDeliveryKeeps =
    (w : World) (b : Beside) (number : ℕ) (m : Message)
    → BringsOf (log_by b) (hard w b) m.note
    → StoresHold w b
    → StoresHold (delivers_to w m (LogStore number)).world b
