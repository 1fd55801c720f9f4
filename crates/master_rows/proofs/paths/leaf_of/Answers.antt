use Rattle.std.proofs.Common.{◌≡◌, ◌∙◌, ◌+◌, ◌-◌, ◌<◌, ℕ, List, None, ap, arith, length, sym, take}
use Rattle.tm_data.specs.declared.transaction.Page.{Page}
use Rattle.page_model.specs.Splits.{images_on}
use Rattle.master_model.specs.Paths.{here, last_of}
use Rattle.master_rows.proofs.WayLemmas.{leaf_before, leaf_here}
use Rattle.master_rows.proofs.paths.leaf_of.Goals as goal

pub returns-in-Some : goal.returns-in-Some
returns-in-Some c =
    let images = here c.args.work.now in
    let ps = c.as_slice-pages.result.now in
    let k = c.loop-at.at - 1 in
    let more : k + 1 ≡ c.loop-at.at = omega (arith, c.loop-at-test.true) in
    let within : k < length ps = omega (arith, c.loop-at-test.true, c.loop-at.auto.at) in
    sym (leaf_here images ps k _ c.in-Some.image.now within (sym c.in-Some.ensures))
    ∙ ap (λ (n : ℕ). last_of None (images_on images (take n ps))) more
    ∙ c.loop-at.invariant
    ∙ ap (λ (qs : List Page). last_of None (images_on images qs)) c.as_slice-pages.ensures

pub loop-at-preserved : goal.loop-at-preserved
loop-at-preserved c =
    let images = here c.args.work.now in
    let ps = c.as_slice-pages.result.now in
    let k = c.loop-at.at - 1 in
    let more : k + 1 ≡ c.loop-at.at = omega (arith, c.loop-at-test.true) in
    let within : k < length ps = omega (arith, c.loop-at-test.true, c.loop-at.auto.at) in
    sym (leaf_before images ps k _ within (sym c.in_default.ensures))
    ∙ ap (λ (n : ℕ). last_of None (images_on images (take n ps))) more
    ∙ c.loop-at.invariant
