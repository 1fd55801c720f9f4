use Rattle.std.proofs.Common.{◌≡◌, ◌≤◌, length}
use Rattle.lock_model.specs.Step.{latest}
use Rattle.global_locks.proofs.writers.Table+WriterEntry.latest.Given as goal

abbrev pub invariant-loop-number : goal.invariant-loop-number
invariant-loop-number l = (latest l.self l.master l.number ≡ latest l.self l.master (length l.self)) × (l.number ≤ length l.self)

abbrev pub decreases-loop-number : goal.decreases-loop-number
decreases-loop-number l = l.number
