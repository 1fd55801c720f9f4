use Rattle.std.proofs.Common.{◌≡◌, ◌<◌, ◌+◌, ◌^◌, List, None, Some, Result, length, sym, ap, ◌∙◌, subst, arith}
use Rattle.std.specs.Option.{option_copied}
use Rattle.tm_data.specs.declared.log.Record.{Record}
use Rattle.page_model.specs.Splits.{Refusal, full_pages, page_above}
use Rattle.row_tree.specs.Inside.{GivesPlan, upward, images_at}
use Rattle.row_tree.proofs.PlanLemmas.{length_up, plan_is}
use Rattle.row_tree.proofs.plan.planned.Goals as goal

pub returns-in_default : goal.returns-in_default
returns-in_default g c = λ few small.
    let images = g.P.Pages.images c.args.pages.now in
    let full = c.as_slice.result.now in
    let e : images_at full ≡ full_pages c.args.row.now (upward images c.args.path.now) = ap images_at c.as_slice.ensures.value ∙ c.in_ok-full.ensures.0 in
    let f : None ≡ page_above c.args.row.now (upward images c.args.path.now) = ap option_copied (sym c.in_default.is) ∙ c.in_ok-full.ensures.1 in
    let le = length_up images c.args.row.now c.args.path.now full e in
    let a : c.args.first.0 + length full < 2 ^ 64 = omega (arith, le, few, small) in
    let b : length full + 1 < 2 ^ 32 = omega (arith, le, few) in
    subst (λ (p : Result (List (List Record)) Refusal). GivesPlan c.plan_root.result p) (plan_is images c.args.row.now c.args.path.now c.args.fresh.now c.args.first.0 full None e f)
    (c.plan_root.ensures a b)

pub returns : goal.returns
returns g c = λ few small.
    let images = g.P.Pages.images c.args.pages.now in
    let full = c.as_slice-2.result.now in
    let e : images_at full ≡ full_pages c.args.row.now (upward images c.args.path.now) = ap images_at c.as_slice-2.ensures.value ∙ c.in_ok-full.ensures.0 in
    let f : Some c.in-Some.above.now ≡ page_above c.args.row.now (upward images c.args.path.now) = ap option_copied (sym c.in-Some.is) ∙ c.in_ok-full.ensures.1 in
    let le = length_up images c.args.row.now c.args.path.now full e in
    let a : c.args.first.0 + length full < 2 ^ 64 = omega (arith, le, few, small) in
    let b : length full < 2 ^ 32 = omega (arith, le, few) in
    subst (λ (p : Result (List (List Record)) Refusal). GivesPlan c.plan_below.result p) (plan_is images c.args.row.now c.args.path.now c.args.fresh.now c.args.first.0 full (Some c.in-Some.above.now) e f)
    (c.plan_below.ensures a b)
