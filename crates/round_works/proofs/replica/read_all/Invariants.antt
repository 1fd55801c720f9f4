use Rattle.std.proofs.Common.{◌≡◌, ◌≤◌}
use Rattle.round_works.specs.Seen.{HasValue}
use Rattle.round_works.proofs.replica.read_all.Given as goal

abbrev pub invariant-loop : goal.invariant-loop
invariant-loop l = (l.sum ≡ l.counter) × (1 ≤ l.counter → HasValue l.replica 1 1 l.key)
