use Rattle.std.proofs.Common.{◌≡◌}
use Rattle.key_model.specs.Inside.{there, with_rows, HasAll}
use Rattle.key_model.proofs.closed.DyingMap.enter.Given as goal

abbrev pub invariant-loop-dying : goal.invariant-loop-dying
invariant-loop-dying l =
    (goal.iterator-loop-dying).can_next l.dying-iterator ×
    (goal.iterator-loop-dying).is_finite l.dying-iterator ×
    HasAll l.self l.dying-iterator.rest.items ×
    (with_rows (there l.self) l.dying-iterator.rest.items ≡ with_rows (there l.fn.self) l.fn.rows)
