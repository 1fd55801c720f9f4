use Rattle.std.proofs.Common.{◌≡◌}
use Rattle.std.specs.Prelude.{T}
use Rattle.std.specs.FinMap as fin
use Rattle.tm_data.specs.Orders.{row_cmp}
use Rattle.key_model.specs.Inside.{valued, HasPlaces}
use Rattle.key_model.specs.After.{with_all}
use Rattle.key_model.proofs.values.enter.Given as goal

abbrev pub invariant-loop-key : goal.invariant-loop-key
invariant-loop-key l =
    (goal.iterator-loop-key).can_next l.key-iterator ×
    (goal.iterator-loop-key).is_finite l.key-iterator ×
    T (fin.is_sorted row_cmp l.key-iterator) ×
    HasPlaces l.places l.key-iterator ×
    (with_all (valued l.places) l.key-iterator ≡ with_all (valued l.fn.places) (fin.entries l.fn.writes))
