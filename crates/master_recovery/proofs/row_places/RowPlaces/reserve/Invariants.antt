use Rattle.std.proofs.Common.{◌≡◌, drop}
use Rattle.master_recovery.specs.Rows.{written_cmp-total, written_cmp-exact}
use Rattle.master_recovery.specs.Places.{itself, valued}
use Rattle.master_recovery.proofs.PlaceLemmas.{Reserves}
use Rattle.master_recovery.proofs.row_places.RowPlaces.reserve.Given as goal

-- where more places than now hold the rest, they hold all
abbrev pub invariant-loop-written : goal.invariant-loop-written
invariant-loop-written l =
    (valued l.self ≡ valued l.fn.self) ×
    Reserves written_cmp-total written_cmp-exact itself l.self (drop l.written-index l.rows) l.rows
