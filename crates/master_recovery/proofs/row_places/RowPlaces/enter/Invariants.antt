use Rattle.std.proofs.Common.{◌≡◌}
use Rattle.master_recovery.specs.Places.{HasAll, itself, nothing, valued, with_items}
use Rattle.master_recovery.proofs.row_places.RowPlaces.enter.Given as goal

abbrev pub invariant-loop-written : goal.invariant-loop-written
invariant-loop-written l =
    (goal.iterator-loop-written).can_next l.written-iterator ×
    (goal.iterator-loop-written).is_finite l.written-iterator ×
    HasAll itself l.self l.written-iterator.rest.items ×
    (with_items itself nothing (valued l.self) l.written-iterator.rest.items ≡ with_items itself nothing (valued l.fn.self) l.fn.rows)
