use Rattle.std.proofs.Common.{◌≡◌, ◌+◌, length}
use Rattle.std.specs.Prelude.{◌*◌}
use Rattle.round_works.proofs.sample.groups.Given as goal

abbrev pub invariant-loop : goal.invariant-loop
invariant-loop l = length l.out.items ≡ 21 + l.counter * 50
