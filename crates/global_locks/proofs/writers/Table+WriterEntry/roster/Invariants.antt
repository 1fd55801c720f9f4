use Rattle.std.proofs.Common.{◌≡◌, ◌++◌}
use Rattle.lock_model.specs.Step.{roster}
use Rattle.global_locks.proofs.writers.Table+WriterEntry.roster.Given as goal

abbrev pub invariant-loop-number : goal.invariant-loop-number
invariant-loop-number l = (goal.iterator-loop-number).can_next l.number-iterator
    × (goal.iterator-loop-number).is_finite l.number-iterator
    × (l.entries ++ roster l.number-iterator ≡ roster l.self)
