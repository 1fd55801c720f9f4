use Rattle.std.proofs.Common.{◌≡◌, ◌+◌, ◌<◌, ◌^◌, length, sym, ap, ◌∙◌, arith}
use Rattle.std.specs.Option.{option_map}
use Rattle.page_model.specs.Splits.{Spot, halves, split_group}
use Rattle.row_tree.specs.Inside.{right_in, spot_in, halves_of}
use Rattle.row_tree.proofs.PlanLemmas.{no_halves, some_halves, ends_there, goes_below, on_ok}
use Rattle.row_tree.proofs.plan.+add_groups.Goals as goal

pub returns-in_default-2 : goal.returns-in_default-2
returns-in_default-2 t c = λ small.
    let r = c.in-Some.image.now in
    let none = no_halves (halves r.now.body) (ap (option_map right_in) (sym c.in_default-2.is) ∙ c.in_ok-half.ensures) in
    ends_there c.args.row.now (spot_in c.args.spot) c.args.full.now c.in-Some.below.now r c.in-Some-split_first.page.now c.args.fresh.now c.in-Some-split_first.fresh.now c.args.stamp.0 c.args.plan.now
    c.in-Some.ensures.cases.0 c.in-Some-split_first.ensures.cases.0 none

pub returns : goal.returns
returns t c = λ small.
    let r = c.in-Some.image.now in
    let half = c.in-Some-2.half in
    let has = some_halves (halves r.now.body) half (ap (option_map right_in) (sym c.in-Some-2.is) ∙ c.in_ok-half.ensures) in
    let shorter : length c.in-Some.below.now + 1 ≡ length c.args.full.now = c.in-Some.ensures.cases.1 in
    let later : c.saturating_add.result ≡ c.args.stamp.0 + 1 = omega (arith, c.saturating_add.ensures, shorter, small) in
    let fits : c.saturating_add.result + length c.in-Some.below.now < 2 ^ 64 = omega (arith, later, shorter, small) in
    on_ok c.add_groups.result
    (goes_below c.args.row.now (spot_in c.args.spot) c.args.full.now c.in-Some.below.now r c.in-Some-split_first.page.now c.args.fresh.now c.in-Some-split_first.fresh.now c.args.stamp.0 c.saturating_add.result half has.0 c.half_for.result c.table_of.result
    c.args.plan.now c.push-2.new.self c.add_groups.new.plan c.in_ok-split_group.field-0
    c.in-Some.ensures.cases.0 c.in-Some-split_first.ensures.cases.0 has.1 c.half_for.ensures c.table_of.ensures later
    c.in_ok-push-2.ensures.ok (c.in_ok-split_group.ensures has.0 ∙ ap (λ (s : Spot). split_group (spot_in c.args.spot) s (halves_of half has.0) c.in-Some-split_first.page.now) c.spot_of.ensures))
    (c.add_groups.ensures fits)
