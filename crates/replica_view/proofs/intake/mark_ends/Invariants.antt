use Rattle.std.proofs.Common.{◌≡◌, drop}
use Rattle.replica_model.specs.Step.{with_ends}
use Rattle.replica_view.proofs.intake.mark_ends.Given as goal

abbrev pub invariant-loop-change : goal.invariant-loop-change
invariant-loop-change l = with_ends l.ends l.group (drop l.change-index l.group.records) ≡ with_ends l.initial.ends l.group l.group.records
