use Rattle.std.proofs.Common.{◌≡◌, drop}
use Rattle.tm_data.specs.Orders.{txn_cmp-total, txn_cmp-exact}
use Rattle.master_recovery.specs.Places.{itself, valued}
use Rattle.master_recovery.proofs.PlaceLemmas.{Reserves}
use Rattle.master_recovery.proofs.txn_places.reserve.Given as goal

-- where more places than now hold the rest, they hold all
abbrev pub invariant-loop-txn : goal.invariant-loop-txn
invariant-loop-txn l =
    (valued l.places ≡ valued l.fn.places) ×
    Reserves txn_cmp-total txn_cmp-exact itself l.places (drop l.txn-index l.txns) l.txns
