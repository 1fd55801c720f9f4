use Rattle.std.proofs.Common.{◌≡◌, ◌++◌, length, take}
use Rattle.std.specs.Prelude.{map}
use Rattle.std.specs.List.{flat_map}
use Rattle.wire_fields.specs.Spelling.{u16_bytes, entry_bytes}
use Rattle.log_record.specs.Spelling.{pair_of}
use Rattle.log_record.proofs.learnt.put_entries.Given as goal

abbrev pub invariant-loop-entry : goal.invariant-loop-entry
invariant-loop-entry l = l.out.items ≡ l.fn.out.items ++ (u16_bytes (length l.entries) ++ flat_map entry_bytes (map pair_of (take l.entry-index l.entries)))
