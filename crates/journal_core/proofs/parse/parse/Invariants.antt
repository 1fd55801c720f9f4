use Rattle.std.proofs.Common.{◌-◌, ◌<◌, ◌≤◌, length, take}
use Rattle.journal_core.specs.Inside.{AreRecords}
use Rattle.journal_core.proofs.parse.parse.Given as goal

abbrev pub invariant-loop-at : goal.invariant-loop-at
invariant-loop-at l = record { inside : l.at < length l.file; long : 2 ≤ length l.file; front : AreRecords (take l.at l.file) l.bodies.items }

abbrev pub decreases-loop-at : goal.decreases-loop-at
decreases-loop-at l = length l.file - l.at
