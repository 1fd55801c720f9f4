use Rattle.std.proofs.Common.{◌≡◌}
use Rattle.master_recovery.specs.Places.{HasAll, itself, nothing, valued, with_items}
use Rattle.master_recovery.proofs.txn_places.enter.Given as goal

abbrev pub invariant-loop-txn : goal.invariant-loop-txn
invariant-loop-txn l =
    (goal.iterator-loop-txn).can_next l.txn-iterator ×
    (goal.iterator-loop-txn).is_finite l.txn-iterator ×
    HasAll itself l.places l.txn-iterator.rest.items ×
    (with_items itself nothing (valued l.places) l.txn-iterator.rest.items ≡ with_items itself nothing (valued l.fn.places) l.fn.txns)
