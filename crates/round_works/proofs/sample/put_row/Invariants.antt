use Rattle.std.proofs.Common.{◌≡◌, ◌+◌, length}
use Rattle.std.specs.Prelude.{◌*◌}
use Rattle.round_works.proofs.sample.put_row.Given as goal

abbrev pub invariant-loop : goal.invariant-loop
invariant-loop l = length l.out.items ≡ length l.fn.out.items + (13 + l.counter)
