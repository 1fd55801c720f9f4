use Rattle.std.proofs.Common.{◌≡◌, ◌≤◌, ◌-◌, ◌++◌, drop, length, take, map}
use Rattle.std.specs.FinMap as fin
use Rattle.master_model.specs.Recovery.{page_stamp, part_of}
use Rattle.master_recovery.specs.Places.{kept}
use Rattle.master_recovery.proofs.page_places.PagePlaces.part.Given as goal

abbrev pub invariant-loop-page : goal.invariant-loop-page
invariant-loop-page l =
    (goal.iterator-loop-page).can_next l.page-iterator ×
    (goal.iterator-loop-page).is_finite l.page-iterator ×
    (l.list ++ take (65536 - length l.list) (drop l.skip (map page_stamp (kept l.page-iterator))) ≡ part_of (map page_stamp (kept (fin.entries l.self))) l.part) ×
    (length l.list ≤ 65536)
