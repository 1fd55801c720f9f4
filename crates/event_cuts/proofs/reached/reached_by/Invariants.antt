use Rattle.std.proofs.Common.{◌≤◌, length, drop}
use Rattle.key_model.specs.Causes.{reaching}
use Rattle.event_cuts.specs.Inside.{HasFound}
use Rattle.event_cuts.proofs.reached.reached_by.Given as goal

abbrev pub invariant-loop-at : goal.invariant-loop-at
invariant-loop-at l = (l.at ≤ length l.before) × HasFound l.reached (reaching l.events (drop l.at l.before) l.event)

abbrev pub decreases-loop-at : goal.decreases-loop-at
decreases-loop-at l = l.at
