use Rattle.std.proofs.Common.{◌≡◌, ◌++◌, drop}
use Rattle.master_model.specs.Leases.{binding}
use Rattle.master_leases.proofs.grants.binding.Given as goal

abbrev pub invariant-loop-tag : goal.invariant-loop-tag
invariant-loop-tag l = l.bound ++ binding l.work (drop l.tag-index l.fn.tags) ≡ binding l.work l.fn.tags
