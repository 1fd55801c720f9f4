use Rattle.std.proofs.Common.{◌≡◌, drop}
use Rattle.replica_model.specs.Step.{with_changes}
use Rattle.replica_view.proofs.intake.keep_changes.Given as goal

abbrev pub invariant-loop-change : goal.invariant-loop-change
invariant-loop-change l = with_changes l.pages.records l.writer.0 l.stamp.0 (drop l.change-index l.records) ≡ with_changes l.initial.pages.records l.writer.0 l.stamp.0 l.records
