use Rattle.std.proofs.Common.{◌≡◌, ◌≤◌, length}
use Rattle.master_acks.specs.Inside.{left_each}
use Rattle.master_acks.proofs.gone.keep_each.Given as goal

abbrev pub invariant-loop-going : goal.invariant-loop-going
invariant-loop-going l =
    (goal.iterator-loop-going).can_next l.going-iterator ×
    (goal.iterator-loop-going).is_finite l.going-iterator ×
    (length l.going-iterator.rest.items ≤ l.left.room) ×
    (left_each l.left.map l.going-iterator.rest.items ≡ left_each l.fn.left.map l.fn.leaving.items)
