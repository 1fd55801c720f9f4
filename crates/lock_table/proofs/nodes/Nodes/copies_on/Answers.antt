use Rattle.std.proofs.Common.{◌≡◌, ◌≤◌, ◌-◌, ◌+◌, length, List, refl, ap, sym, subst, ◌∙◌, arith, [], ◌∷◌, ◌++◌}
use Rattle.std.specs.Prelude.{filter}
use Rattle.std.specs.declared.option.Option.TheVariants.{None, Some}
use Rattle.tm_base.specs.declared.message.Tag.{Tag}
use Rattle.lock_table.specs.declared.heads.Head.{Head}
use Rattle.lock_table.specs.declared.node.Node.{Node}
use Rattle.lock_table.specs.declared.node.Side.TheVariants as side
use Rattle.lock_table.specs.Tags.{tag_of, is_on}
use Rattle.lock_table.specs.Inside.{IsList, link_at, link_of_node, tag_at, tag_in, tag_of_node, head_in, on}
use Rattle.lock_table.proofs.Filters.{all_filter}
use Rattle.lock_table.proofs.Gathers.{Gather, gather_begins, gather_ended, gather_spent, gather_has, gather_met}
use Rattle.lock_table.proofs.nodes.Nodes.copies_on.Goals as goal

pub loop-init : goal.loop-init
loop-init c = λ es l.
    let s = c.args.self.now.slab in
    let zs = filter (on c.args.page.0) es in
    let li : IsList (link_at side.Page s) c.or_empty-head.result zs =
    subst (λ (h : Head). IsList (link_at side.Page s) h zs) (sym (c.or_empty-head.ensures ∙ ap head_in c.get.ensures)) (l.page c.args.page.0) in
    let enough : length zs ≤ c.or_empty-head.result.count - 0 = omega (arith, li.count) in
    subst (λ (z : List Tag). Gather (link_at side.Page s) (tag_at s) zs z c.or_empty-head.result.first (c.or_empty-head.result.count - 0)) (sym c.new-tags.ensures)
    (gather_begins (link_at side.Page s) (tag_at s) zs c.or_empty-head.result.first (c.or_empty-head.result.count - 0) li.linked li.first (all_filter (λ e. tag_at s e.0 ≡ Some e.1) (is_on c.args.page.0) es l.here) enough)

pub returns-in_default : goal.returns-in_default
returns-in_default c = λ es l.
    let s = c.args.self.now.slab in
    gather_ended (link_at side.Page s) (tag_at s) (filter (on c.args.page.0) es) c.loop.tags c.loop.next (c.or_empty-head.result.count - c.loop.counter) (c.loop.invariant es l) c.in_default.is

pub returns-in_default-get : goal.returns-in_default-get
returns-in_default-get c = λ es l.
    let s = c.args.self.now.slab in
    absurd (gather_has (link_at side.Page s) (tag_at s) (filter (on c.args.page.0) es) c.loop.tags c.loop.next (c.or_empty-head.result.count - c.loop.counter) c.in-Some.at (c.loop.invariant es l) c.in-Some.is
    (ap tag_of_node (sym c.in_default-get.ensures)))

pub loop-preserved : goal.loop-preserved
loop-preserved c = λ es l.
    let s = c.args.self.now.slab in
    let zs = filter (on c.args.page.0) es in
    let n : Node = c.in-Some-get.node.now in
    let left : c.or_empty-head.result.count - c.loop.counter ≡ c.or_empty-head.result.count - (c.loop.counter + 1) + 1 = omega arith in
    subst (λ (z : List Tag). Gather (link_at side.Page s) (tag_at s) zs z n.on_page.next (c.or_empty-head.result.count - (c.loop.counter + 1))) (sym c.in_ok-push.ensures.ok)
    (gather_met (link_at side.Page s) (tag_at s) zs c.loop.tags c.loop.next (c.or_empty-head.result.count - c.loop.counter) (c.or_empty-head.result.count - (c.loop.counter + 1)) c.in-Some.at (tag_in n) c.in_ok-copy.field-0 n.on_page
    (c.loop.invariant es l) c.in-Some.is (ap tag_of_node (sym c.in-Some-get.ensures)) (ap (link_of_node side.Page) (sym c.in-Some-get.ensures)) c.in_ok-copy.ensures left)

pub returns : goal.returns
returns c = λ es l.
    let s = c.args.self.now.slab in
    let left : c.or_empty-head.result.count - c.loop.counter ≡ 0 = omega arith in
    gather_spent (link_at side.Page s) (tag_at s) (filter (on c.args.page.0) es) c.loop.tags c.loop.next (c.or_empty-head.result.count - c.loop.counter) (c.loop.invariant es l) left
