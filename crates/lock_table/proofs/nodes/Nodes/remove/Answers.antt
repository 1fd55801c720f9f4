use Rattle.std.proofs.Common.{◌≡◌, ◌++◌, ◌∷◌, refl, ap, sym, subst, ◌∙◌}
use Rattle.lock_table.specs.declared.orders.Orders.{Orders}
use Rattle.lock_table.specs.Tags.{PageTag, tag_of}
use Rattle.std.specs.FinMap.{get}
use Rattle.std.specs.declared.option.Option.TheVariants.{Some}
use Rattle.lock_table.specs.declared.node.Side.TheVariants as side
use Rattle.lock_table.specs.declared.nodes.Nodes.{Nodes}
use Rattle.lock_table.specs.Inside.{Stand, AreOrdered, tag_in, tag_of_node, rejoined, kept, shorter, head_in}
use Rattle.lock_table.proofs.Tables.{removed_by, tag_there, kept_other}
use Rattle.lock_table.proofs.nodes.Nodes.remove.Goals as goal

pub returns-clause-removed : goal.returns-clause-removed
returns-clause-removed g c = λ xs ys t l.
    let s = c.args.self.now in
    let n = c.remove-node.result in
    let same : t ≡ tag_in n = tag_there s.slab s.pages s.txns s.orders n c.args.key t xs ys c.remove-node.ensures.value l in (
      ap tag_of (sym same),
      removed_by s.slab c.remove-node.new.self (rejoined side.Page c.remove-node.new.self n.on_page n.on_page) c.unlink.new.self.slab s.pages c.unlink.new.self.pages s.txns c.shorten.new.self s.orders c.unlink.new.self.orders n c.args.key xs ys c.remove-node.ensures.value c.remove-node.ensures.updates refl
          (ap (λ (z : Nodes). z.slab) c.unlink.ensures) (ap (λ (z : Nodes). z.pages) c.unlink.ensures) (c.shorten.ensures ∙ ap (λ (z : Nodes). kept z.txns n.tag.txn (shorter (head_in (get z.txns n.tag.txn)) n.of_txn)) c.unlink.ensures)
          (subst (λ (z : PageTag). Stand s (xs ++ (c.args.key, z) ∷ ys)) same l)
          (subst (λ (z : Orders). AreOrdered z (xs ++ ys)) (sym (ap (λ (z : Nodes). z.orders) c.unlink.ensures)) (c.strike.ensures xs ys t l.ascend l.here l.order)),
    )

pub returns-clause-others : goal.returns-clause-others
returns-clause-others g c = λ p t there other.
    let s = c.args.self.now in
    let n = c.remove-node.result in
    let same : Some t ≡ Some (tag_in n) = sym there ∙ ap tag_of_node c.remove-node.ensures.value in
    let page : t.page ≡ n.page.0 = cc (same) in
    ap (λ (z : Nodes). get z.pages p) c.unlink.ensures ∙ kept_other s.pages n.page.0 (shorter (head_in (get s.pages n.page.0)) n.on_page) p (λ (h : p ≡ n.page.0). other (h ∙ sym page))
