use Rattle.std.proofs.Common.{◌≡◌, ◌++◌}
use Rattle.std.specs.FinMap.{entries}
use Rattle.replica_model.specs.Step.{fetches}
use Rattle.replica_view.proofs.state.State.fetches.Given as goal

abbrev pub invariant-loop-number : goal.invariant-loop-number
invariant-loop-number l =
    (goal.iterator-loop-number).can_next l.number-iterator ×
    (goal.iterator-loop-number).is_finite l.number-iterator ×
    (l.outputs ++ fetches l.self l.number-iterator ≡ fetches l.self (entries l.self.roster))
