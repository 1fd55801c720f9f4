use Rattle.std.proofs.Common.{◌-◌, List}
use Rattle.lock_table.specs.Tags.{page_tag}
use Rattle.lock_table.specs.Inside.{Entry, IsList, link_at, tag_at}
use Rattle.lock_table.proofs.Walks.{Walk}
use Rattle.lock_table.proofs.Filters.{Here}
use Rattle.lock_table.proofs.nodes.gap.Given as goal

abbrev pub invariant-loop : goal.invariant-loop
invariant-loop l = (es : List Entry) → IsList (link_at l.side l.nodes) l.fn.head es → Here (tag_at l.nodes) es
    → Walk (link_at l.side l.nodes) (tag_at l.nodes) (page_tag l.page.0 l.key l.txn) es l.prev l.next (l.fn.head.count - l.counter)
