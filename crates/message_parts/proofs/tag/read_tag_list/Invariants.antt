use Rattle.std.proofs.Common.{◌≡◌, ◌-◌}
use Rattle.wire_fields.proofs.Lists.{with_front}
use Rattle.message_parts.specs.Spelling.{no_tag}
use Rattle.message_parts.specs.Reading.{tag_list_at}
use Rattle.message_parts.proofs.tag.read_tag_list.Given as goal

abbrev pub invariant-loop : goal.invariant-loop
invariant-loop l = with_front l.tags.items (tag_list_at l.total (record { key = l.last_key; txn = l.last_txn }) (l.count - l.counter) l.rest) ≡ tag_list_at l.total no_tag l.count l.bytes
