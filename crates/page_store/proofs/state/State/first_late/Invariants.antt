use Rattle.std.proofs.Common.{◌≡◌}
use Rattle.std.specs.FinMap.{entries}
use Rattle.store_model.specs.PageReads.{first_late}
use Rattle.page_store.proofs.state.State.first_late.Given as goal

abbrev pub invariant-loop-told : goal.invariant-loop-told
invariant-loop-told l =
    (goal.iterator-loop-told).can_next l.told-iterator ×
    (goal.iterator-loop-told).is_finite l.told-iterator ×
    (first_late l.self l.stamp.0 l.told-iterator ≡ first_late l.self l.stamp.0 (entries l.self.roster))
