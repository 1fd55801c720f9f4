use Rattle.std.proofs.Common.{◌≡◌, ◌++◌, ◌∷◌, ℕ, List, length, remove, ap, sym, subst, ◌∙◌}
use Rattle.std.specs.Prelude.{filter}
use Rattle.std.specs.Map.{lookup}
use Rattle.std.specs.declared.option.Option.{Option}
use Rattle.std.specs.declared.option.Option.TheVariants.{None, Some}
use Rattle.lock_table.specs.declared.node.Node.{Node}
use Rattle.lock_table.specs.Tags.{PageTag}
use Rattle.lock_table.specs.Inside.{Entry, by, upto, tag_in, tag_at, tag_of_node}
use Rattle.lock_table.proofs.Filters.{all_filter, Here}
use Rattle.lock_table.proofs.Tables.{all_at}
use Rattle.lock_table.proofs.Halves.{unkept, reordered, order_of, order_without}
use Rattle.lock_table.proofs.Values.{ascend_filter}
use Rattle.lock_table.proofs.seek.strike_list.Goals as goal

tag_is : (at : ℕ → Option PageTag) (key : ℕ) (n : Node) (t : PageTag) (xs ys : List Entry) → at key ≡ Some (tag_in n) → Here at (xs ++ (key, t) ∷ ys) → t ≡ tag_in n
tag_is at key n t xs ys there h = let same : Some t ≡ Some (tag_in n) = sym (all_at (λ e. at e.0 ≡ Some e.1) (key, t) xs ys h) ∙ there in cc (same)

pub returns-in_default-clause-here : goal.returns-in_default-clause-here
returns-in_default-clause-here g c = λ u xs ys t yes a h o.
    let there : tag_at c.args.nodes.now c.args.key ≡ Some t = all_at (λ e. tag_at c.args.nodes.now e.0 ≡ Some e.1) (c.args.key, t) xs ys h in
    let none : tag_at c.args.nodes.now c.args.key ≡ None = ap tag_of_node (sym c.in_default.ensures) in
    absurd (cc (there, none))

pub returns-in_default-get-clause-here : goal.returns-in_default-get-clause-here
returns-in_default-get-clause-here g c = λ u xs ys t yes a h o. unkept (lookup (g.K.PartialEq.eq c.args.list) c.args.orders.now) (filter (by u) (xs ++ ys)) (sym c.in_default-get.ensures)

pub returns-clause-here : goal.returns-clause-here
returns-clause-here g c = λ u xs ys t yes a h o.
    let n : Node = c.in-Some.node.now in
    let key = c.args.key in
    let order = c.in-Some-get.order.now in
    let at = c.below-at.result in
    let mid : List Entry = xs ++ (key, t) ∷ ys in
    let same : t ≡ tag_in n = tag_is (tag_at c.args.nodes.now) key n t xs ys (ap tag_of_node (sym c.in-Some.ensures)) h in
    let kept = order_of (lookup (g.K.PartialEq.eq c.args.list) c.args.orders.now) order (filter (by u) mid) c.in-Some-get.ensures o in
    let count = c.below-at.ensures.count (filter (by u) mid) (c.as_slice.ensures ∙ kept) (ascend_filter u mid a) (all_filter (λ e. tag_at c.args.nodes.now e.0 ≡ Some e.1) u mid h) in
    let count' = subst (λ (z : PageTag). at ≡ length (upto z (filter (by u) mid))) (sym same) count in
    let w = order_without u t yes key at order xs ys a kept count' in
    reordered g.K.PartialEq.eq c.args.orders.now c.remove.new.self c.args.list (remove order at) (filter (by u) (xs ++ ys)) (c.remove.ensures.order order (sym c.in-Some-get.ensures) w.0) w.1

pub returns-clause-others : goal.returns-clause-others
returns-clause-others g c = c.remove.ensures.others
