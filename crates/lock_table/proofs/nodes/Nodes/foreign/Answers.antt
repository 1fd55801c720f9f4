use Rattle.std.proofs.Common.{◌≡◌, ◌≤◌, ◌-◌, ◌+◌, Bool, true, false, cond, length, refl, ap, sym, subst, ◌∙◌, arith}
use Rattle.std.specs.Prelude.{filter, not, nat_eq}
use Rattle.std.specs.declared.option.Option.TheVariants.{None, Some}
use Rattle.lock_table.specs.declared.heads.Head.{Head}
use Rattle.lock_table.specs.declared.node.Node.{Node}
use Rattle.lock_table.specs.declared.node.Side.TheVariants as side
use Rattle.lock_table.specs.Tags.{tag_of, is_on}
use Rattle.lock_table.specs.Inside.{IsList, link_at, link_of_node, tag_at, tag_in, tag_of_node, head_in, foreign_in, on}
use Rattle.lock_table.proofs.Filters.{all_filter}
use Rattle.lock_table.proofs.Seeks.{seek_begins, seek_ended, seek_spent, seek_has, seek_met}
use Rattle.lock_table.proofs.nodes.Nodes.foreign.Goals as goal

not_true : (b : Bool) → not b ≡ true → b ≡ false
not_true true h = absurd (cc (h))
not_true false h = refl

not_false : (b : Bool) → not b ≡ false → b ≡ true
not_false true h = refl
not_false false h = absurd (cc (h))

pub loop-init : goal.loop-init
loop-init c = λ es l.
    let s = c.args.self.now.slab in
    let zs = filter (on c.args.page.0) es in
    let li : IsList (link_at side.Page s) c.or_empty-head.result zs =
    subst (λ (h : Head). IsList (link_at side.Page s) h zs) (sym (c.or_empty-head.ensures ∙ ap head_in c.get.ensures)) (l.page c.args.page.0) in
    let enough : length zs ≤ c.or_empty-head.result.count - 0 = omega (arith, li.count) in
    seek_begins (link_at side.Page s) (tag_at s) (foreign_in c.args.own.0) zs None c.or_empty-head.result.first (c.or_empty-head.result.count - 0) li.linked li.first (all_filter (λ e. tag_at s e.0 ≡ Some e.1) (is_on c.args.page.0) es l.here) enough

pub returns-in_default : goal.returns-in_default
returns-in_default c = λ es l.
    let s = c.args.self.now.slab in
    sym (seek_ended (link_at side.Page s) (tag_at s) (foreign_in c.args.own.0) (filter (on c.args.page.0) es) c.loop.next (c.or_empty-head.result.count - c.loop.counter) (c.loop.invariant es l) c.in_default.is)

pub returns-in_default-get : goal.returns-in_default-get
returns-in_default-get c = λ es l.
    let s = c.args.self.now.slab in
    absurd (seek_has (link_at side.Page s) (tag_at s) (foreign_in c.args.own.0) (filter (on c.args.page.0) es) c.loop.next (c.or_empty-head.result.count - c.loop.counter) c.in-Some.at (c.loop.invariant es l) c.in-Some.is (ap tag_of_node (sym c.in_default-get.ensures)))

pub returns-then-ne : goal.returns-then-ne
returns-then-ne c = λ es l.
    let s = c.args.self.now.slab in
    let n : Node = c.in-Some-get.node.now in
    let m = seek_met (link_at side.Page s) (tag_at s) (foreign_in c.args.own.0) (filter (on c.args.page.0) es) c.loop.next (c.or_empty-head.result.count - c.loop.counter) c.in-Some.at (tag_in n) (c.loop.invariant es l) c.in-Some.is (ap tag_of_node (sym c.in-Some-get.ensures)) in
    let test : nat_eq n.tag.txn.writer.0 c.args.own.0 ≡ false = not_true (nat_eq n.tag.txn.writer.0 c.args.own.0) (sym c.ne.ensures ∙ c.if-ne.true) in
    sym (m.is ∙ ap (λ (b : Bool). cond b (foreign_in c.args.own.0 m.rest) (Some (tag_of (tag_in n)))) test)

pub loop-preserved : goal.loop-preserved
loop-preserved c = λ es l.
    let s = c.args.self.now.slab in
    let n : Node = c.in-Some-get.node.now in
    let m = seek_met (link_at side.Page s) (tag_at s) (foreign_in c.args.own.0) (filter (on c.args.page.0) es) c.loop.next (c.or_empty-head.result.count - c.loop.counter) c.in-Some.at (tag_in n) (c.loop.invariant es l) c.in-Some.is (ap tag_of_node (sym c.in-Some-get.ensures)) in
    let test : nat_eq n.tag.txn.writer.0 c.args.own.0 ≡ true = not_false (nat_eq n.tag.txn.writer.0 c.args.own.0) (sym c.ne.ensures ∙ c.if-ne.false) in
    let left : c.or_empty-head.result.count - c.loop.counter ≡ c.or_empty-head.result.count - (c.loop.counter + 1) + 1 = omega arith in
    m.goes n.on_page (c.or_empty-head.result.count - (c.loop.counter + 1)) (ap (link_of_node side.Page) (sym c.in-Some-get.ensures)) (ap (λ (b : Bool). cond b (foreign_in c.args.own.0 m.rest) (Some (tag_of (tag_in n)))) test) left

pub returns : goal.returns
returns c = λ es l.
    let s = c.args.self.now.slab in
    let left : c.or_empty-head.result.count - c.loop.counter ≡ 0 = omega arith in
    sym (seek_spent (link_at side.Page s) (tag_at s) (foreign_in c.args.own.0) (filter (on c.args.page.0) es) c.loop.next (c.or_empty-head.result.count - c.loop.counter) (c.loop.invariant es l) left)
