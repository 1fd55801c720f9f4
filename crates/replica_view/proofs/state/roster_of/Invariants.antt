use Rattle.std.proofs.Common.{◌≡◌, drop}
use Rattle.std.specs.FinMap.{empty}
use Rattle.replica_model.specs.Step.{with_entries}
use Rattle.replica_view.proofs.state.roster_of.Given as goal

abbrev pub invariant-loop-entry : goal.invariant-loop-entry
invariant-loop-entry l = with_entries l.roster (drop l.entry-index l.told) ≡ with_entries empty l.told
