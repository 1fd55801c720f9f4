use Rattle.std.proofs.Common.{◌≡◌, drop}
use Rattle.replica_model.specs.Order.{uncovered}
use Rattle.replica_apply.proofs.cover.uncovered_in.Given as goal

abbrev pub invariant-loop-entry : goal.invariant-loop-entry
invariant-loop-entry l = uncovered l.frontier (drop l.entry-index l.vector) ≡ uncovered l.frontier l.vector
