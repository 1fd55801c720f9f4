use Rattle.std.proofs.Common.{◌≡◌}
use Rattle.std.specs.FinMap as fin
use Rattle.std.specs.Map.{keys_of}
use Rattle.tm_data.specs.Orders.{txn_cmp-total, txn_cmp-exact}
use Rattle.key_model.specs.Inside.{valued}
use Rattle.key_model.proofs.PlaceLemmas.{Reserves}
use Rattle.key_model.proofs.settled.reserve_ends.Given as goal

-- where more places than now hold the rest, they hold all
abbrev pub invariant-loop-txn : goal.invariant-loop-txn
invariant-loop-txn l =
    (goal.iterator-loop-txn).can_next l.txn-iterator ×
    (goal.iterator-loop-txn).is_finite l.txn-iterator ×
    (valued l.places ≡ valued l.fn.places) ×
    Reserves txn_cmp-total txn_cmp-exact l.places (keys_of l.txn-iterator) (fin.keys l.ends)
