use Rattle.std.proofs.Common.{◌≡◌, ◌++◌, length, take}
use Rattle.std.specs.List.{flat_map}
use Rattle.wire_fields.specs.Spelling.{u16_bytes}
use Rattle.message_parts.specs.Spelling.{entry_bytes}
use Rattle.message_parts.proofs.roster.put_roster.Given as goal

abbrev pub invariant-loop-entry : goal.invariant-loop-entry
invariant-loop-entry l = l.out.items ≡ l.fn.out.items ++ (u16_bytes (length l.entries) ++ flat_map entry_bytes (take l.entry-index l.entries))
