use Rattle.std.proofs.Common.{length, ◌-◌, ◌≡◌, ◌+◌, ◌≤◌, drop}
use Rattle.log_writer.specs.Log.{reached}
use Rattle.log_writer.proofs.rows.walk_on.Given as goal

abbrev pub invariant-loop-count : goal.invariant-loop-count
invariant-loop-count l = (l.count ≤ length l.groups.items) × (l.count + reached (drop l.count l.groups.items) l.store ≡ reached l.groups.items l.store)

abbrev pub decreases-loop-count : goal.decreases-loop-count
decreases-loop-count l = length l.groups.items - l.count
