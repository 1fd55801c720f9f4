use Rattle.std.proofs.Common.{◌≡◌}
use Rattle.std.specs.FinMap as fin
use Rattle.key_model.specs.Inside.{over}
use Rattle.key_model.proofs.closing.Ending.write.Given as goal

abbrev pub invariant-loop-key : goal.invariant-loop-key
invariant-loop-key l =
    (goal.iterator-loop-key).can_next l.key-iterator ×
    (goal.iterator-loop-key).is_finite l.key-iterator ×
    (l.self.outcomes ≡ l.fn.self.outcomes) ×
    (over l.self.writes l.key-iterator ≡ over l.fn.self.writes (fin.entries l.fn.writes))
