use Rattle.std.proofs.Common.{◌≡◌}
use Rattle.std.specs.Prelude.{◌*◌}
use Rattle.round_works.proofs.codec.read_group.Given as goal

abbrev pub invariant-loop : goal.invariant-loop
invariant-loop l = l.sum ≡ l.counter * l.group.writer.0
