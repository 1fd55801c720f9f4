use Rattle.std.proofs.Common.{◌≡◌}
use Rattle.std.specs.FinMap.{entries}
use Rattle.replica_model.specs.Order.{waits_among}
use Rattle.replica_apply.proofs.order.Order.waits.Given as goal

abbrev pub invariant-loop-lane : goal.invariant-loop-lane
invariant-loop-lane l =
    (goal.iterator-loop-lane).can_next l.lane-iterator ×
    (goal.iterator-loop-lane).is_finite l.lane-iterator ×
    (waits_among l.self l.lane-iterator ≡ waits_among l.self (entries l.self.lines))
