use Rattle.std.proofs.Common.{◌≡◌, ◌-◌, ◌+◌, Bool, true, false, cond, refl, ap, sym, ◌∙◌, arith}
use Rattle.std.specs.Prelude.{not}
use Rattle.std.specs.declared.option.Option.TheVariants.{None, Some}
use Rattle.lock_table.specs.declared.node.Node.{Node}
use Rattle.lock_table.specs.declared.node.Side.TheVariants as side
use Rattle.lock_table.specs.Tags.{same_txn, is_on_key}
use Rattle.lock_table.specs.Inside.{link_at, link_of_node, tag_at, tag_in, tag_of_node, other_in}
use Rattle.lock_table.proofs.Seeks.{seek_has, seek_met}
use Rattle.lock_table.proofs.nodes.other_from.Goals as goal

not_true : (b : Bool) → not b ≡ true → b ≡ false
not_true true h = absurd (cc (h))
not_true false h = refl

not_false : (b : Bool) → not b ≡ false → b ≡ true
not_false true h = refl
not_false false h = absurd (cc (h))

pub returns-in_default-get : goal.returns-in_default-get
returns-in_default-get c = λ prev es l start here enough.
    let s = c.args.nodes.now in
    absurd (seek_has (link_at side.Page s) (tag_at s) (other_in c.args.page.0 c.args.key.now c.args.own) es c.loop.next (c.args.most - c.loop.counter) c.in-Some.at (c.loop.invariant prev es l start here enough) c.in-Some.is (ap tag_of_node (sym c.in_default-get.ensures)))

pub returns-then-not-is_on_key : goal.returns-then-not-is_on_key
returns-then-not-is_on_key c = λ prev es l start here enough.
    let s = c.args.nodes.now in
    let n : Node = c.in-Some-get.node.now in
    let answer = other_in c.args.page.0 c.args.key.now c.args.own in
    let m = seek_met (link_at side.Page s) (tag_at s) answer es c.loop.next (c.args.most - c.loop.counter) c.in-Some.at (tag_in n) (c.loop.invariant prev es l start here enough) c.in-Some.is (ap tag_of_node (sym c.in-Some-get.ensures)) in
    let key : is_on_key c.args.page.0 c.args.key.now (tag_in n) ≡ false = sym c.is_on_key.ensures ∙ c.if-not-is_on_key.true in
    sym (m.is ∙ ap (λ (b : Bool). cond b (cond (same_txn n.tag.txn c.args.own) (answer m.rest) (Some n.tag.txn)) None) key)

pub returns-then-ne : goal.returns-then-ne
returns-then-ne c = λ prev es l start here enough.
    let s = c.args.nodes.now in
    let n : Node = c.in-Some-get.node.now in
    let answer = other_in c.args.page.0 c.args.key.now c.args.own in
    let m = seek_met (link_at side.Page s) (tag_at s) answer es c.loop.next (c.args.most - c.loop.counter) c.in-Some.at (tag_in n) (c.loop.invariant prev es l start here enough) c.in-Some.is (ap tag_of_node (sym c.in-Some-get.ensures)) in
    let key : is_on_key c.args.page.0 c.args.key.now (tag_in n) ≡ true = sym c.is_on_key.ensures ∙ c.if-not-is_on_key.false in
    let test : same_txn n.tag.txn c.args.own ≡ false = not_true (same_txn n.tag.txn c.args.own) (sym c.ne.ensures ∙ c.if-ne.true) in
    sym (m.is ∙ (ap (λ (b : Bool). cond b (cond (same_txn n.tag.txn c.args.own) (answer m.rest) (Some n.tag.txn)) None) key ∙ ap (λ (b : Bool). cond b (answer m.rest) (Some n.tag.txn)) test))

pub loop-preserved : goal.loop-preserved
loop-preserved c = λ prev es l start here enough.
    let s = c.args.nodes.now in
    let n : Node = c.in-Some-get.node.now in
    let answer = other_in c.args.page.0 c.args.key.now c.args.own in
    let m = seek_met (link_at side.Page s) (tag_at s) answer es c.loop.next (c.args.most - c.loop.counter) c.in-Some.at (tag_in n) (c.loop.invariant prev es l start here enough) c.in-Some.is (ap tag_of_node (sym c.in-Some-get.ensures)) in
    let key : is_on_key c.args.page.0 c.args.key.now (tag_in n) ≡ true = sym c.is_on_key.ensures ∙ c.if-not-is_on_key.false in
    let test : same_txn n.tag.txn c.args.own ≡ true = not_false (same_txn n.tag.txn c.args.own) (sym c.ne.ensures ∙ c.if-ne.false) in
    let left : c.args.most - c.loop.counter ≡ c.args.most - (c.loop.counter + 1) + 1 = omega arith in
    m.goes n.on_page (c.args.most - (c.loop.counter + 1)) (ap (link_of_node side.Page) (sym c.in-Some-get.ensures))
    (ap (λ (b : Bool). cond b (cond (same_txn n.tag.txn c.args.own) (answer m.rest) (Some n.tag.txn)) None) key ∙ ap (λ (b : Bool). cond b (answer m.rest) (Some n.tag.txn)) test) left
