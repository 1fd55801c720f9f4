use Rattle.std.proofs.Common.{◌≤◌}
use Rattle.rounds.proofs.tags.seek_foreign.Given as goal

abbrev pub invariant-loop : goal.invariant-loop
invariant-loop l = l.sum ≤ l.counter
