use Rattle.std.proofs.Common.{◌≡◌, ◌+◌, length, List, ℕ, sym, ap, ◌∙◌, arith}
use Rattle.std.specs.Prelude.{is_some, min, sum_by}
use Rattle.tm_base.specs.Sizes.{MOST, row_size, child_size, fence_size}
use Rattle.page_model.specs.Effects.{cut_at, rows_below, entries_below}
use Rattle.page_redo.proofs.SetLemmas.{leaf_cut, inner_cut}
use Rattle.page_redo.proofs.suits.cut_suits.Goals as goal

pub returns-then-parts : goal.returns-then-parts
returns-then-parts c =
    let it = c.in-Leaf in
    let below = c.size_below.ensures ∙ ap (λ (k : List ℕ). sum_by row_size (rows_below k it.rows)) c.as_slice.ensures.same in
    let long : length c.as_slice-then-parts.result.now ≡ length c.args.at.now = ap length c.as_slice-then-parts.ensures.same in
    leaf_cut it.table it.low it.high it.rows c.args.at.now c.saturating_add.result (sym c.parts.ensures ∙ c.if-parts.true) (omega (arith, c.saturating_add.ensures, below, long, c.fence_size.ensures.value))
    ∙ ap (λ b. is_some (cut_at b c.args.at.now)) (sym it.is)

pub returns-then-parts-2 : goal.returns-then-parts-2
returns-then-parts-2 c =
    let it = c.in-Inner in
    let below = c.size_below-then-parts-2.ensures ∙ ap (λ (k : List ℕ). sum_by child_size (entries_below k it.entries)) c.as_slice-then-parts-2.ensures.same in
    let long : length c.as_slice-then-parts-2-2.result.now ≡ length c.args.at.now = ap length c.as_slice-then-parts-2-2.ensures.same in
    inner_cut it.table it.level it.low it.high it.first it.entries c.args.at.now c.saturating_add-then-parts-2.result (sym c.parts-in-Inner.ensures ∙ c.if-parts-2.true) (omega (arith, c.saturating_add-then-parts-2.ensures, below, long, c.fence_size-then-parts-2.ensures.value))
    ∙ ap (λ b. is_some (cut_at b c.args.at.now)) (sym it.is)
