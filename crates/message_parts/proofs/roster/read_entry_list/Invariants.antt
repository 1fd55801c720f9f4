use Rattle.std.proofs.Common.{◌≡◌, ◌-◌}
use Rattle.wire_fields.proofs.Lists.{with_front}
use Rattle.message_parts.specs.Reading.{entry_list_at}
use Rattle.message_parts.proofs.roster.read_entry_list.Given as goal

abbrev pub invariant-loop : goal.invariant-loop
invariant-loop l = with_front l.entries.items (entry_list_at l.total l.after (l.count - l.counter) l.rest) ≡ entry_list_at l.total 0 l.count l.bytes
