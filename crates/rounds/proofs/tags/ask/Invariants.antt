use Rattle.std.proofs.Common.{◌≤◌}
use Rattle.rounds.proofs.tags.ask.Given as goal

abbrev pub invariant-loop-at : goal.invariant-loop-at
invariant-loop-at l = l.sum ≤ l.at
