use Rattle.std.proofs.Common.{◌≡◌, drop}
use Rattle.replica_model.specs.Step.{offered_of}
use Rattle.replica_view.proofs.intake.offer_groups.Given as goal

abbrev pub invariant-loop-group : goal.invariant-loop-group
invariant-loop-group l = offered_of l.order l.writer.0 (drop l.group-index l.groups) ≡ offered_of l.initial.order l.writer.0 l.groups
