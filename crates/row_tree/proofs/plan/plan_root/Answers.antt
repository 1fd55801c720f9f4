use Rattle.std.proofs.Common.{◌≡◌, ◌+◌, ◌<◌, ◌≤◌, ◌^◌, length, arith}
use Rattle.row_tree.proofs.PlanLemmas.{root_plan}
use Rattle.row_tree.proofs.plan.plan_root.Goals as goal

pub returns : goal.returns
returns c = λ small few.
    let r = c.in-Some.image.now in
    let shorter : length c.in-Some.below.now + 1 ≡ length c.args.full.now = c.in-Some.ensures.cases.1 in
    let needed : c.saturating_add.result ≡ length c.args.full.now + 1 = omega (arith, c.saturating_add.ensures, few) in
    let fits : c.args.first.0 + 1 + length c.in-Some.below.now < 2 ^ 64 = omega (arith, shorter, small) in
    let enough : c.saturating_add.result ≤ length c.args.fresh.now = c.in_ok-enough.ensures (omega (arith, needed, few)) in
    root_plan c.args.row.now c.args.fresh.now c.args.first.0 c.args.full.now c.in-Some.below.now r c.new-plan.result c.add_root_groups.new.plan c.in-Some.ensures.cases.0 shorter (omega (arith, c.level_of.ensures)) (omega (arith, enough, needed)) c.new-plan.ensures
    (c.in_ok-add_root_groups.ensures fits)
