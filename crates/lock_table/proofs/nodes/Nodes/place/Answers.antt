use Rattle.std.proofs.Common.{◌≡◌, ap, sym, subst, ◌∙◌}
use Rattle.std.specs.Prelude.{filter, nat_eq}
use Rattle.std.specs.Map.{lookup}
use Rattle.lock_table.specs.declared.heads.Head.{Head}
use Rattle.lock_table.specs.declared.node.Side.TheVariants as side
use Rattle.lock_table.specs.Inside.{IsList, link_at, head_in, on}
use Rattle.lock_table.specs.Tags.{is_on}
use Rattle.lock_table.proofs.Filters.{all_filter}
use Rattle.lock_table.proofs.Halves.{order_of}
use Rattle.lock_table.proofs.Values.{ascend_filter}
use Rattle.lock_table.specs.Inside.{tag_at}
use Rattle.std.specs.declared.option.Option.TheVariants.{Some}
use Rattle.lock_table.proofs.nodes.Nodes.place.Goals as goal

pub returns-in_default : goal.returns-in_default
returns-in_default c = λ es l.
    let s = c.args.self.now in
    let p = c.args.page.0 in
    c.gap.ensures (filter (on p) es) (subst (λ (h : Head). IsList (link_at side.Page s.slab) h (filter (on p) es)) (sym (c.or_empty-head.ensures ∙ ap head_in c.get-in_default.ensures)) (l.page p))
    (all_filter (λ e. tag_at s.slab e.0 ≡ Some e.1) (is_on p) es l.here)

pub returns : goal.returns
returns c = λ es l.
    let s = c.args.self.now in
    let p = c.args.page.0 in
    c.gap_in.ensures (filter (on p) es) (c.as_slice.ensures ∙ order_of (lookup (nat_eq p) s.orders.pages) c.in-Some.order.now (filter (on p) es) c.in-Some.ensures (l.order.0 p)) (ascend_filter (is_on p) es l.ascend)
    (all_filter (λ e. tag_at s.slab e.0 ≡ Some e.1) (is_on p) es l.here)
