use Rattle.std.proofs.Common.{◌≡◌, Some, sym, subst, arith, List}
use Rattle.tm_data.specs.declared.transaction.Page.{Page}
use Rattle.page_model.specs.Splits.{full_pages, page_above}
use Rattle.row_tree.specs.Inside.{upward, images_at}
use Rattle.row_tree.proofs.FullLemmas.{stops, goes_up, passes}
use Rattle.row_tree.proofs.full.full_pages.Goals as goal

pub returns-then-not-is_full : goal.returns-then-not-is_full
returns-then-not-is_full g c =
    let images = g.P.Pages.images c.args.pages.now in
    let e = stops images c.args.row.now c.as_slice-steps.result.now c.loop-left.left (record { 0 = 0 }) c.loop-left.full.items c.in-Some.image.now c.loop-left-test.true c.loop-left.invariant.0 c.in-Some.ensures (sym c.if-not-is_full.ensures) c.loop-left.invariant.1 in
    subst (λ (path : List Page). (images_at c.loop-left.full.items ≡ full_pages c.args.row.now (upward images path)) × (Some c.in-Some.image.now ≡ page_above c.args.row.now (upward images path))) c.as_slice-steps.ensures e

pub loop-left-preserved-in-Continue-1 : goal.loop-left-preserved-in-Continue-1
loop-left-preserved-in-Continue-1 g c = (
  omega arith,
  let images = g.P.Pages.images c.args.pages.now in
      goes_up images c.args.row.now c.as_slice-steps.result.now c.loop-left.left (record { 0 = 0 }) c.loop-left.full.items c.push.new.self.items c.in-Some.image c.loop-left-test.true c.loop-left.invariant.0 c.in-Some.ensures (sym c.if-not-is_full.ensures) c.in_ok-push.ensures.items c.loop-left.invariant.1,
)

pub loop-left-preserved : goal.loop-left-preserved
loop-left-preserved g c = (
  omega arith,
  passes (g.P.Pages.images c.args.pages.now) c.args.row.now c.as_slice-steps.result.now c.loop-left.left (record { 0 = 0 }) c.loop-left.full.items c.loop-left-test.true c.loop-left.invariant.0 c.in_default.ensures c.loop-left.invariant.1,
)
