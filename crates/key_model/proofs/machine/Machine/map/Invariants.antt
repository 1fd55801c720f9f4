use Rattle.std.proofs.Common.{◌≡◌}
use Rattle.std.specs.Prelude.{◌++◌}
use Rattle.std.specs.FinMap as fin
use Rattle.key_model.specs.Inside.{entries_of, kept}
use Rattle.key_model.proofs.machine.Machine.map.Given as goal

abbrev pub invariant-loop-key : goal.invariant-loop-key
invariant-loop-key l =
    (goal.iterator-loop-key).can_next l.key-iterator ×
    (goal.iterator-loop-key).is_finite l.key-iterator ×
    (l.list ++ entries_of (kept l.key-iterator) ≡ entries_of (fin.entries l.self.map))
