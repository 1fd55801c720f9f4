use Rattle.std.proofs.Common.{◌≡◌}
use Rattle.master_recovery.specs.Places.{HasAll, page_key, stamp_value, valued, with_items}
use Rattle.master_recovery.proofs.page_places.PagePlaces.enter.Given as goal

abbrev pub invariant-loop-item : goal.invariant-loop-item
invariant-loop-item l =
    (goal.iterator-loop-item).can_next l.item-iterator ×
    (goal.iterator-loop-item).is_finite l.item-iterator ×
    HasAll page_key l.self l.item-iterator.rest.items ×
    (with_items page_key stamp_value (valued l.self) l.item-iterator.rest.items ≡ with_items page_key stamp_value (valued l.fn.self) l.fn.pages)
