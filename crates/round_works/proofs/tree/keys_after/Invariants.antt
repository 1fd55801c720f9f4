use Rattle.std.proofs.Common.{◌≡◌, length}
use Rattle.round_works.proofs.tree.keys_after.Given as goal

abbrev pub invariant-loop-at : goal.invariant-loop-at
invariant-loop-at l = length l.keys.items ≡ l.at
