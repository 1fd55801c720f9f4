use Rattle.std.proofs.Common.{◌≡◌, ◌+◌, ◌<◌, ◌^◌, Some, length, refl, sym, ap, ◌∙◌, arith}
use Rattle.std.specs.Option.{option_map}
use Rattle.tm_data.specs.declared.image.Body.{Body}
use Rattle.page_model.specs.Splits.{halves}
use Rattle.row_tree.specs.Inside.{right_in, halves_of}
use Rattle.row_tree.proofs.PlanLemmas.{some_halves, goes_below_root, on_ok}
use Rattle.row_tree.proofs.plan.add_root_groups.Goals as goal

pub returns : goal.returns
returns c = λ small.
    let image = c.args.image.now in
    let half = c.in-Some-2.half in
    let left = c.in_ok-left_body.left_body in
    let has = some_halves (halves image.body) half (ap (option_map right_in) (sym c.in-Some-2.is) ∙ c.in_ok-half.ensures) in
    let same : left ≡ has.0 = c.in_ok-left_body.ensures (halves_of half has.0) has.1 refl in
    let whole : halves image.body ≡ Some (halves_of half left) = has.1 ∙ ap (λ (l : Body). Some (halves_of half l)) (sym same) in
    let later : c.saturating_add.result ≡ c.args.stamp.0 + 1 = omega (arith, c.saturating_add.ensures, small) in
    let fits : c.saturating_add.result + length c.args.below.now < 2 ^ 64 = omega (arith, later, small) in
    on_ok c.add_groups.result
    (goes_below_root c.args.row.now image c.args.below.now c.in-Some.left.now c.in-Some-split_first.right.now c.args.fresh.now c.in-Some.fresh.now c.in-Some-split_first.fresh.now c.args.stamp.0 c.saturating_add.result half left c.half_for.result c.table_of.result
    c.args.plan.now c.push.new.self c.add_groups.new.plan c.in_ok-root_group.field-0
    c.in-Some.ensures.cases.0 c.in-Some-split_first.ensures.cases.0 whole c.half_for.ensures c.table_of.ensures later
    c.in_ok-push.ensures.ok c.in_ok-root_group.ensures)
    (c.add_groups.ensures fits)
