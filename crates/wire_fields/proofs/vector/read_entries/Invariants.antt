use Rattle.std.proofs.Common.{◌≡◌, ◌-◌}
use Rattle.wire_fields.specs.Reading.{entries_at}
use Rattle.wire_fields.proofs.Lists.{with_front}
use Rattle.wire_fields.proofs.vector.read_entries.Given as goal

abbrev pub invariant-loop : goal.invariant-loop
invariant-loop l = with_front l.entries.items (entries_at l.total l.own l.after (l.count - l.counter) l.rest) ≡ entries_at l.total l.own 0 l.count l.bytes
