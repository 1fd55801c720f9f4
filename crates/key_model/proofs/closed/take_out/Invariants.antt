use Rattle.std.proofs.Common.{◌≡◌}
use Rattle.tm_data.specs.Maps.{as_map}
use Rattle.key_model.specs.State.{dying_cmp}
use Rattle.key_model.specs.Inside.{without_own}
use Rattle.key_model.proofs.closed.take_out.Given as goal

abbrev pub invariant-loop-dying : goal.invariant-loop-dying
invariant-loop-dying l =
    (goal.iterator-loop-dying).can_next l.dying-iterator ×
    (goal.iterator-loop-dying).is_finite l.dying-iterator ×
    (without_own l.writer (as_map {R = dying_cmp} l.places) l.dying-iterator.rest.items ≡ without_own l.writer (as_map l.fn.places) l.fn.rows)
