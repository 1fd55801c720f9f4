use Rattle.std.proofs.Common.{length, ◌-◌, ◌≤◌}
use Rattle.event_cuts.specs.Places.{HasPlaces}
use Rattle.event_cuts.proofs.own_events.own_events.Given as goal

abbrev pub invariant-loop-at : goal.invariant-loop-at
invariant-loop-at l = (l.at ≤ length l.events) × HasPlaces l.events l.at l.own

abbrev pub decreases-loop-at : goal.decreases-loop-at
decreases-loop-at l = length l.events - l.at
