use Rattle.std.proofs.Common.{◌≡◌}
use Rattle.std.specs.FinSet as sets
use Rattle.key_model.specs.After.{locks}
use Rattle.key_model.specs.Inside.{there}
use Rattle.key_model.proofs.FirstLemmas.{walked}
use Rattle.key_model.proofs.closed.DyingMap.locks.Given as goal

abbrev pub invariant-loop-dying : goal.invariant-loop-dying
invariant-loop-dying l =
    (goal.iterator-loop-dying).can_next l.dying-iterator ×
    (goal.iterator-loop-dying).is_finite l.dying-iterator ×
    (walked l.dying-iterator l.first.row ≡ locks (sets.items (there l.self)) l.first.row)
