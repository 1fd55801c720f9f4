use Rattle.std.proofs.Common.{◌≡◌}
use Rattle.std.specs.FinMap as fin
use Rattle.std.specs.Map.{keys_of}
use Rattle.key_model.specs.Inside.{valued, over, HasAll}
use Rattle.key_model.proofs.settled.enter_ends.Given as goal

abbrev pub invariant-loop-txn : goal.invariant-loop-txn
invariant-loop-txn l =
    (goal.iterator-loop-txn).can_next l.txn-iterator ×
    (goal.iterator-loop-txn).is_finite l.txn-iterator ×
    HasAll l.places (keys_of l.txn-iterator) ×
    (over (valued l.places) l.txn-iterator ≡ over (valued l.fn.places) (fin.entries l.fn.ends))
