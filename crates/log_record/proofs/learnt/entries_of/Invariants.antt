use Rattle.std.proofs.Common.{◌≡◌, take}
use Rattle.std.specs.Prelude.{map}
use Rattle.log_record.specs.Spelling.{entry_of}
use Rattle.log_record.proofs.learnt.entries_of.Given as goal

abbrev pub invariant-loop-pair : goal.invariant-loop-pair
invariant-loop-pair l = l.entries.items ≡ map entry_of (take l.pair-index l.pairs)
