use Rattle.std.proofs.Common.{◌≡◌, ◌++◌}
use Rattle.std.specs.FinMap.{entries}
use Rattle.store_model.specs.PageStep.{fetches}
use Rattle.page_store.proofs.state.State.fetches.Given as goal

abbrev pub invariant-loop-entry : goal.invariant-loop-entry
invariant-loop-entry l =
    (goal.iterator-loop-entry).can_next l.entry-iterator ×
    (goal.iterator-loop-entry).is_finite l.entry-iterator ×
    (l.outputs ++ fetches l.self l.entry-iterator ≡ fetches l.self (entries l.self.roster))
