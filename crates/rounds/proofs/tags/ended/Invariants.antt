use Rattle.std.proofs.Common.{◌≡◌}
use Rattle.rounds.proofs.tags.ended.Given as goal

abbrev pub invariant-loop : goal.invariant-loop
invariant-loop g l = l.sum ≡ l.counter
