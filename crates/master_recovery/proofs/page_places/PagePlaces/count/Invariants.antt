use Rattle.std.proofs.Common.{◌≡◌, ◌≤◌, ◌+◌, ◌^◌, length}
use Rattle.std.specs.FinMap as fin
use Rattle.master_recovery.specs.Places.{kept}
use Rattle.master_recovery.proofs.page_places.PagePlaces.count.Given as goal

abbrev pub invariant-loop-page : goal.invariant-loop-page
invariant-loop-page l =
    (goal.iterator-loop-page).can_next l._page-iterator ×
    (goal.iterator-loop-page).is_finite l._page-iterator ×
    (l.count + length (kept l._page-iterator) ≡ length (kept (fin.entries l.self))) ×
    (l.count + length l._page-iterator ≤ 2 ^ 32)
