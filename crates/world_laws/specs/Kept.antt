-- The states that the disks give. A node that runs has come from its disk's, and of one that is stopped every fact is said
-- of that.
use Rattle.std.specs.Prelude.{◌≡◌, ◌⊎◌, ℕ}
use Rattle.std.specs.FinMap as fin
use Rattle.std.specs.declared.option.Option.{Option}
use Rattle.lock_model.specs.State.{State, at, start}
use Rattle.lock_model.specs.Runs.{LogEnd, after, ended_at}
use Rattle.store_model.specs.LogState.{LogStoreState}
use Rattle.store_model.specs.LogState as log_state
use Rattle.store_model.specs.LogStarts.{reopened}
use Rattle.world_model.specs.World.{World, log_disk_of}
use Rattle.world_laws.specs.Beside.{Beside, durable_by, up_to}

-- What the lock manager's disk gives: its messages, taken in order.
abbrev pub locks_kept : World → State
locks_kept w = after start w.lock_disk.records

-- What a log store's disk gives.
abbrev pub log_kept : World → ℕ → LogStoreState
log_kept w number = reopened (log_state.start number) (log_disk_of w number).records

-- Where a writer's log ends for ever, if it does.
abbrev pub end_of : World → ℕ → Option LogEnd
end_of w writer = ended_at (at (locks_kept w).writers writer)

-- How many of its groups stand for ever.
abbrev pub hard : World → Beside → ℕ → ℕ
hard w b writer = up_to (end_of w writer) (durable_by (fin.get b.lives writer))

-- There are three log stores that masters speak to.
abbrev pub IsOneOfThree : ℕ → Type 0
IsOneOfThree store = (store ≡ 1) ⊎ ((store ≡ 2) ⊎ (store ≡ 3))
