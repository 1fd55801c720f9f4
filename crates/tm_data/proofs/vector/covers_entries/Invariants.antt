use Rattle.std.proofs.Common.{◌≡◌, drop}
use Rattle.tm_data.specs.Vectors.{covers}
use Rattle.tm_data.proofs.vector.covers_entries.Given as goal

abbrev pub invariant-loop-entry : goal.invariant-loop-entry
invariant-loop-entry l = covers l.vector (drop l.entry-index l.entries) ≡ covers l.vector l.entries
