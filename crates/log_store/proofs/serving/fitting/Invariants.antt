use Rattle.std.proofs.Common.{◌≡◌, ◌<◌, ◌++◌, drop}
use Rattle.store_model.specs.LogStep.{fits, fitting}
use Rattle.log_store.proofs.serving.fitting.Given as goal

abbrev pub invariant-loop-group : goal.invariant-loop-group
invariant-loop-group l = (l.room < 18446744073709551615) × (l.served ++ fits l.is_first l.room (drop l.group-index l.groups) ≡ fitting l.groups)
