use Rattle.std.proofs.Common.{◌≡◌, ◌-◌}
use Rattle.log_record.specs.Reading.{items_at}
use Rattle.wire_fields.proofs.Lists.{with_front}
use Rattle.log_record.proofs.item.read_items.Given as goal

abbrev pub invariant-loop : goal.invariant-loop
invariant-loop l = with_front l.items.items (items_at l.total l.stamp l.alone l.last (l.count - l.counter) l.rest) ≡ items_at l.total l.stamp l.alone 0 l.count l.bytes
