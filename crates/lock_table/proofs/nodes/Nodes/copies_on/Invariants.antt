use Rattle.std.proofs.Common.{◌-◌, List}
use Rattle.std.specs.Prelude.{filter}
use Rattle.lock_table.specs.declared.node.Side.TheVariants as side
use Rattle.lock_table.specs.Inside.{Entry, Stand, link_at, tag_at, on}
use Rattle.lock_table.proofs.Gathers.{Gather}
use Rattle.lock_table.proofs.nodes.Nodes.copies_on.Given as goal

abbrev pub invariant-loop : goal.invariant-loop
invariant-loop l = (es : List Entry) → Stand l.self es
    → Gather (link_at side.Page l.self.slab) (tag_at l.self.slab) (filter (on l.fn.page.0) es) l.tags l.next (l.end - l.counter)
