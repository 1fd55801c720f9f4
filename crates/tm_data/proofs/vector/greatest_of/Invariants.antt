use Rattle.std.proofs.Common.{◌≡◌, max, drop}
use Rattle.tm_data.specs.Vectors.{greatest}
use Rattle.tm_data.proofs.vector.greatest_of.Given as goal

abbrev pub invariant-loop-entry : goal.invariant-loop-entry
invariant-loop-entry l = max l.most (greatest (drop l.entry-index l.entries)) ≡ greatest l.entries
