use Rattle.std.proofs.Common.{◌≡◌, ap, sym, subst, ◌∙◌}
use Rattle.std.specs.Prelude.{filter}
use Rattle.std.specs.Map.{lookup}
use Rattle.lock_table.specs.declared.heads.Head.{Head}
use Rattle.lock_table.specs.declared.node.Side.TheVariants as side
use Rattle.lock_table.specs.Inside.{IsList, link_at, head_in, of, is_of}
use Rattle.lock_table.specs.Tags.{same_txn}
use Rattle.lock_table.proofs.Filters.{all_filter}
use Rattle.lock_table.proofs.Halves.{order_of}
use Rattle.lock_table.proofs.Values.{ascend_filter}
use Rattle.lock_table.specs.Inside.{tag_at}
use Rattle.std.specs.declared.option.Option.TheVariants.{Some}
use Rattle.lock_table.proofs.nodes.Nodes.place_of.Goals as goal

pub returns-in_default : goal.returns-in_default
returns-in_default c = λ es l.
    let s = c.args.self.now in
    let x = c.args.txn in
    c.gap.ensures (filter (of x) es) (subst (λ (h : Head). IsList (link_at side.Txn s.slab) h (filter (of x) es)) (sym (c.or_empty-head.ensures ∙ ap head_in c.get-in_default.ensures)) (l.txn x))
    (all_filter (λ e. tag_at s.slab e.0 ≡ Some e.1) (is_of x) es l.here)

pub returns : goal.returns
returns c = λ es l.
    let s = c.args.self.now in
    let x = c.args.txn in
    c.gap_in.ensures (filter (of x) es) (c.as_slice.ensures ∙ order_of (lookup (same_txn x) s.orders.txns) c.in-Some.order.now (filter (of x) es) c.in-Some.ensures (l.order.1 x)) (ascend_filter (is_of x) es l.ascend)
    (all_filter (λ e. tag_at s.slab e.0 ≡ Some e.1) (is_of x) es l.here)
