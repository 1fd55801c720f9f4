use Rattle.std.proofs.Common.{◌≡◌}
use Rattle.std.specs.FinMap as fin
use Rattle.std.specs.FinMap.{FinMap}
use Rattle.tm_data.specs.Orders.{row_cmp}
use Rattle.std.specs.Prelude.{List, ℕ}
use Rattle.std.specs.declared.option.Option.{Option}
use Rattle.key_model.specs.Inside.{valued, HasPlaces}
use Rattle.key_model.proofs.ValuedLemmas.{HasMore}
use Rattle.key_model.proofs.values.reserve.Given as goal

-- where more places than now hold the rest, they hold all
abbrev pub invariant-loop-key : goal.invariant-loop-key
invariant-loop-key l =
    (goal.iterator-loop-key).can_next l.key-iterator ×
    (goal.iterator-loop-key).is_finite l.key-iterator ×
    (valued l.places ≡ valued l.fn.places) ×
    ((n : FinMap row_cmp (Option (List ℕ))) → HasMore l.places n → HasPlaces n l.key-iterator → HasPlaces n (fin.entries l.writes))
