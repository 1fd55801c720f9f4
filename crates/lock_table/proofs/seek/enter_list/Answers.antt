use Rattle.std.proofs.Common.{◌≡◌, ◌++◌, ◌∷◌, ℕ, Bool, true, false, refl, [], length, insert, ap, sym, subst, ◌∙◌}
use Rattle.std.specs.Prelude.{filter, not, ◌&&◌, is_some}
use Rattle.std.specs.Map.{lookup}
use Rattle.std.specs.declared.option.Option.{Option}
use Rattle.std.specs.declared.option.Option.TheVariants.{None, Some}
use Rattle.lock_table.specs.declared.node.Node.{Node}
use Rattle.lock_table.specs.Tags.{PageTag}
use Rattle.lock_table.specs.Inside.{is_all, by, upto, from, tag_in, tag_at, tag_of_node}
use Rattle.lock_table.proofs.Filters.{all_filter}
use Rattle.lock_table.proofs.Halves.{unkept, reordered, others_stay, order_of, order_with, order_one}
use Rattle.lock_table.proofs.Values.{ascend_filter}
use Rattle.lock_table.proofs.seek.enter_list.Goals as goal

same_tag : (a b : PageTag) → Some a ≡ Some b → a ≡ b
same_tag a b h = cc (h)

none_of : (o : Option ℕ) (b : Bool) → (not (is_some o) && b) ≡ true → o ≡ None
none_of None b h = refl
none_of (Some k) b h = absurd (cc (h))

and_turned : (a b : Bool) → (b && a) ≡ (a && b)
and_turned true true = refl
and_turned true false = refl
and_turned false true = refl
and_turned false false = refl

pub returns-in_default-clause-here : goal.returns-in_default-clause-here
returns-in_default-clause-here g c = λ u es t there yes a h gap o.
    let none : tag_at c.args.nodes.now c.args.key ≡ None = ap tag_of_node (sym c.in_default.ensures) in
    absurd (cc (there, none))

pub returns-then-is_all-clause-here : goal.returns-then-is_all-clause-here
returns-then-is_all-clause-here g c = λ u es t there yes a h gap o.
    let test : is_all c.args.gap ≡ true = sym c.is_all.ensures ∙ c.if-is_all.true in
    reordered g.K.PartialEq.eq c.args.orders.now c.begin.new.self c.args.list (c.args.key ∷ []) (filter (by u) (upto t es ++ (c.args.key, t) ∷ from t es)) c.begin.ensures
    (order_one u t yes c.args.key c.args.gap es a gap (none_of c.args.gap.prev (not (is_some c.args.gap.next)) test) (none_of c.args.gap.next (not (is_some c.args.gap.prev)) (and_turned (not (is_some c.args.gap.prev)) (not (is_some c.args.gap.next)) ∙ test)))

pub returns-then-is_all-clause-others : goal.returns-then-is_all-clause-others
returns-then-is_all-clause-others g c = others_stay g.K.PartialEq.eq c.args.orders.now c.begin.new.self c.args.list (c.args.key ∷ []) c.begin.ensures

pub returns-else-is_all-clause-here : goal.returns-else-is_all-clause-here
returns-else-is_all-clause-here g c = λ u es t there yes a h gap o. unkept (lookup (g.K.PartialEq.eq c.args.list) c.args.orders.now) (filter (by u) (upto t es ++ (c.args.key, t) ∷ from t es)) (sym c.in_default-get.ensures)

pub returns-clause-here : goal.returns-clause-here
returns-clause-here g c = λ u es t there yes a h gap o.
    let n : Node = c.in-Some.node.now in
    let key = c.args.key in
    let order = c.in-Some-get.order.now in
    let at = c.below-at.result in
    let same : t ≡ tag_in n = same_tag t (tag_in n) (sym there ∙ ap tag_of_node (sym c.in-Some.ensures)) in
    let kept = order_of (lookup (g.K.PartialEq.eq c.args.list) c.args.orders.now) order (filter (by u) es) c.in-Some-get.ensures o in
    let count = c.below-at.ensures.count (filter (by u) es) (c.as_slice.ensures ∙ kept) (ascend_filter u es a) (all_filter (λ e. tag_at c.args.nodes.now e.0 ≡ Some e.1) u es h) in
    let count' = subst (λ (z : PageTag). at ≡ length (upto z (filter (by u) es))) (sym same) count in
    reordered g.K.PartialEq.eq c.args.orders.now c.insert.new.self c.args.list (insert order at key) (filter (by u) (upto t es ++ (key, t) ∷ from t es)) (c.insert.ensures order (sym c.in-Some-get.ensures)) (order_with u t yes key at order es a kept count')

pub returns-clause-others : goal.returns-clause-others
returns-clause-others g c =
    others_stay g.K.PartialEq.eq c.args.orders.now c.insert.new.self c.args.list (insert c.in-Some-get.order.now c.below-at.result c.args.key) (c.insert.ensures c.in-Some-get.order.now (sym c.in-Some-get.ensures))
