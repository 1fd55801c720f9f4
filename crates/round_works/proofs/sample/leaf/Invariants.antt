use Rattle.std.proofs.Common.{◌≡◌, ◌+◌, length}
use Rattle.std.specs.Prelude.{◌*◌}
use Rattle.round_works.proofs.sample.leaf.Given as goal

abbrev pub invariant-loop-key : goal.invariant-loop-key
invariant-loop-key l = length l.out.items ≡ 20 + l.key * (15 + l.value)
