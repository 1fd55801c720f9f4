use Rattle.std.proofs.Common.{◌≡◌}
use Rattle.replica_model.specs.Step.{applies_all, waiting}
use Rattle.replica_view.proofs.state.State.apply_all.Given as goal

abbrev pub invariant-loop : goal.invariant-loop
invariant-loop l = applies_all l.self ≡ applies_all l.initial.self

abbrev pub decreases-loop : goal.decreases-loop
decreases-loop l = waiting l.self.order
