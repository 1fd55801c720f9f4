use Rattle.std.proofs.Common.{◌≡◌, ◌++◌, false}
use Rattle.global_locks.specs.Inside.{freed_among}
use Rattle.global_locks.proofs.pages.Table+PageEntry.freed_listed.Given as goal

abbrev pub invariant-loop-page : goal.invariant-loop-page
invariant-loop-page l = (goal.iterator-loop-page).can_next l.page-iterator
    × (goal.iterator-loop-page).is_finite l.page-iterator
    × (l.pages.items ++ freed_among l.self l.writer.0 false l.listed l.vector l.page-iterator ≡ freed_among l.self l.writer.0 false l.listed l.vector l.listed)
