use Rattle.std.proofs.Common.{◌≡◌, ◌-◌}
use Rattle.wire_fields.proofs.Lists.{with_front}
use Rattle.message_parts.specs.Reading.{group_list_at}
use Rattle.message_parts.proofs.group_list.read_group_list.Given as goal

abbrev pub invariant-loop : goal.invariant-loop
invariant-loop l = with_front l.groups.items (group_list_at l.total (l.count - l.counter) l.rest) ≡ group_list_at l.total l.count l.bytes
