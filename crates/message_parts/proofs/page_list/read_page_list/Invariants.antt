use Rattle.std.proofs.Common.{◌≡◌, ◌-◌}
use Rattle.wire_fields.proofs.Lists.{with_front}
use Rattle.message_parts.specs.Reading.{page_list_at}
use Rattle.message_parts.proofs.page_list.read_page_list.Given as goal

abbrev pub invariant-loop : goal.invariant-loop
invariant-loop l = with_front l.pages.items (page_list_at l.total l.least (l.count - l.counter) l.rest) ≡ page_list_at l.total 0 l.count l.bytes
