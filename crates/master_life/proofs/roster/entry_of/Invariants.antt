use Rattle.std.proofs.Common.{◌≡◌, drop}
use Rattle.master_model.specs.Recovery.{entry_of}
use Rattle.master_life.proofs.roster.entry_of.Given as goal

abbrev pub invariant-loop-entry : goal.invariant-loop-entry
invariant-loop-entry l = entry_of (drop l.entry-index l.entries) l.writer.0 ≡ entry_of l.entries l.writer.0
