use Rattle.std.proofs.Common.{refl, ◌≡◌, ◌-◌, ◌+◌, ℕ, true, false, ap, sym, subst, ◌∙◌, arith}
use Rattle.std.specs.Ordering.{is_lt, is_ge}
use Rattle.std.specs.declared.cmp.Ordering.{Ordering}
use Rattle.std.specs.declared.cmp.Ordering.TheVariants.{Less, Equal, Greater}
use Rattle.std.specs.declared.option.Option.{Option}
use Rattle.std.specs.declared.option.Option.TheVariants.{None, Some}
use Rattle.slab.specs.Slab.{get}
use Rattle.lock_table.specs.declared.node.Link.{Link}
use Rattle.lock_table.specs.declared.node.Node.{Node}
use Rattle.lock_table.specs.Tags.{page_tag, tag_cmp}
use Rattle.lock_table.specs.Inside.{link_at, tag_at, tag_in, link_in, tag_of_node, link_of_node}
use Rattle.lock_table.proofs.Walks.{Walk, begins, ends, ends_spent, has_tag, ends_found, goes}
use Rattle.lock_table.proofs.nodes.gap.Goals as goal

not_less : (o : Ordering) → is_ge o ≡ true → is_lt o ≡ false
not_less Less h = absurd (cc (h))
not_less Equal h = ap (λ _. false) h
not_less Greater h = ap (λ _. false) h

less : (o : Ordering) → is_ge o ≡ false → is_lt o ≡ true
less Less h = ap (λ _. true) h
less Equal h = absurd (cc (h))
less Greater h = absurd (cc (h))

pub loop-init : goal.loop-init
loop-init c = λ es l here.
    let all : c.args.head.count ≡ c.args.head.count - 0 = omega arith in
    subst (Walk (link_at c.args.side c.args.nodes.now) (tag_at c.args.nodes.now) (page_tag c.args.page.0 c.args.key.now c.args.txn) es None c.args.head.first) all
    (begins (link_at c.args.side c.args.nodes.now) (tag_at c.args.nodes.now) (page_tag c.args.page.0 c.args.key.now c.args.txn) es c.args.head l here)

pub returns-in_default : goal.returns-in_default
returns-in_default c = λ es l here.
    ends (link_at c.args.side c.args.nodes.now) (tag_at c.args.nodes.now) (page_tag c.args.page.0 c.args.key.now c.args.txn) es c.loop.prev c.loop.next (c.args.head.count - c.loop.counter) (c.loop.invariant es l here) c.in_default.is

pub returns-in_default-get : goal.returns-in_default-get
returns-in_default-get c = λ es l here.
    let f = link_at c.args.side c.args.nodes.now in
    let at = tag_at c.args.nodes.now in
    let t = page_tag c.args.page.0 c.args.key.now c.args.txn in
    let none : at c.in-Some.at ≡ None = ap tag_of_node (sym c.in_default-get.ensures) in
    absurd (has_tag f at t es c.loop.prev c.loop.next (c.args.head.count - c.loop.counter) c.in-Some.at (c.loop.invariant es l here) c.in-Some.is none)

pub returns-then-is_ge : goal.returns-then-is_ge
returns-then-is_ge c = λ es l here.
    let f = link_at c.args.side c.args.nodes.now in
    let at = tag_at c.args.nodes.now in
    let t = page_tag c.args.page.0 c.args.key.now c.args.txn in
    let n : Node = c.in-Some-get.node.now in
    let there : at c.in-Some.at ≡ Some (tag_in n) = ap tag_of_node (sym c.in-Some-get.ensures) in
    let w = subst (λ (o : Option ℕ). Walk f at t es c.loop.prev o (c.args.head.count - c.loop.counter)) c.in-Some.is (c.loop.invariant es l here) in
    ends_found f at t es c.loop.prev (Some c.in-Some.at) (c.args.head.count - c.loop.counter) c.in-Some.at (tag_in n) w refl there (not_less (tag_cmp (tag_in n) t) (ap is_ge (sym c.compare.ensures) ∙ (sym c.is_ge.ensures ∙ c.if-is_ge.true)))

pub loop-preserved : goal.loop-preserved
loop-preserved c = λ es l here.
    let f = link_at c.args.side c.args.nodes.now in
    let at = tag_at c.args.nodes.now in
    let t = page_tag c.args.page.0 c.args.key.now c.args.txn in
    let n : Node = c.in-Some-get.node.now in
    let slot : get c.args.nodes.now c.in-Some.at ≡ Some n = sym c.in-Some-get.ensures in
    let lower : is_lt (tag_cmp (tag_in n) t) ≡ true = less (tag_cmp (tag_in n) t) (ap is_ge (sym c.compare.ensures) ∙ (sym c.is_ge.ensures ∙ c.if-is_ge.false)) in
    let w = subst (λ (o : Option ℕ). Walk f at t es c.loop.prev o (c.args.head.count - c.loop.counter)) c.in-Some.is (c.loop.invariant es l here) in
    let left : c.args.head.count - c.loop.counter ≡ c.args.head.count - (c.loop.counter + 1) + 1 = omega arith in
    subst (λ (o : Option ℕ). Walk f at t es (Some c.in-Some.at) o (c.args.head.count - (c.loop.counter + 1))) (ap (λ (z : Link). z.next) (sym c.link-next.ensures))
    (goes f at t es c.loop.prev (Some c.in-Some.at) (c.args.head.count - c.loop.counter) (c.args.head.count - (c.loop.counter + 1)) c.in-Some.at (tag_in n) (link_in c.args.side n) w left refl (ap tag_of_node slot) (ap (link_of_node c.args.side) slot) lower)

pub returns : goal.returns
returns c = λ es l here.
    ends_spent (link_at c.args.side c.args.nodes.now) (tag_at c.args.nodes.now) (page_tag c.args.page.0 c.args.key.now c.args.txn) es c.loop.prev c.loop.next (c.args.head.count - c.loop.counter) (c.loop.invariant es l here) (omega arith)
