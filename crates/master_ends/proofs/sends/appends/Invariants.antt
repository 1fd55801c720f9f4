use Rattle.std.proofs.Common.{◌≡◌, ◌++◌, drop}
use Rattle.master_model.specs.Acks.{appends}
use Rattle.master_ends.proofs.sends.appends.Given as goal

abbrev pub invariant-loop-group : goal.invariant-loop-group
invariant-loop-group l = l.messages ++ appends l.work (drop l.group-index l.groups) ≡ appends l.fn.work l.groups
