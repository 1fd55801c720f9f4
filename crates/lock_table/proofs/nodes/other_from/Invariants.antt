use Rattle.std.proofs.Common.{◌≡◌, ◌≤◌, ◌-◌, ℕ, List, length}
use Rattle.std.specs.declared.option.Option.{Option}
use Rattle.std.specs.declared.option.Option.TheVariants.{None}
use Rattle.lock_table.specs.declared.node.Side.TheVariants as side
use Rattle.lock_table.specs.Inside.{Entry, IsLinked, head_of, link_at, tag_at, other_in}
use Rattle.lock_table.proofs.Filters.{Here}
use Rattle.lock_table.proofs.Seeks.{Seek}
use Rattle.lock_table.proofs.nodes.other_from.Given as goal

abbrev pub invariant-loop : goal.invariant-loop
invariant-loop l = (prev : Option ℕ) (es : List Entry) → IsLinked (link_at side.Page l.nodes) prev es None → l.initial.next ≡ head_of es None → Here (tag_at l.nodes) es → length es ≤ l.most
    → Seek (link_at side.Page l.nodes) (tag_at l.nodes) (other_in l.page.0 l.key l.own) es l.next (l.most - l.counter)
