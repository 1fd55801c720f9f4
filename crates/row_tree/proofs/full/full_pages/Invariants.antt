use Rattle.std.proofs.Common.{◌≡◌, ◌++◌, ◌≤◌, take, length}
use Rattle.page_model.specs.Splits.{full_pages, page_above}
use Rattle.row_tree.specs.Inside.{upward, images_at}
use Rattle.row_tree.proofs.full.full_pages.Given as goal

abbrev pub invariant-loop-left : goal.invariant-loop-left
invariant-loop-left g l =
    let images = g.P.Pages.images l.pages in
    (l.left ≤ length l.steps) × ((images_at l.full.items ++ full_pages l.row (upward images (take l.left l.steps)) ≡ full_pages l.row (upward images l.steps))
    × (page_above l.row (upward images (take l.left l.steps)) ≡ page_above l.row (upward images l.steps)))

abbrev pub decreases-loop-left : goal.decreases-loop-left
decreases-loop-left g l = l.left
