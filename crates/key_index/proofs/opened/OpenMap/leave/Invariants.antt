use Rattle.std.proofs.Common.{◌≡◌}
use Rattle.std.specs.FinMap as fin
use Rattle.key_index.specs.Touched.{HasNoneOf}
use Rattle.key_index.proofs.LeaveLemmas.{rest_of, ToCome}
use Rattle.key_index.proofs.opened.OpenMap.leave.Given as goal

-- what is to stay is as at first
abbrev pub invariant-loop-txn : goal.invariant-loop-txn
invariant-loop-txn l = rest_of l.writer l.ends l.self ≡ rest_of l.writer l.ends l.fn.self

abbrev pub decreases-loop-txn : goal.decreases-loop-txn
decreases-loop-txn l = fin.len l.self

abbrev pub invariant-loop-ended : goal.invariant-loop-ended
invariant-loop-ended l =
    (goal.iterator-loop-ended).can_next l.ended-iterator ×
    (goal.iterator-loop-ended).is_finite l.ended-iterator ×
    (rest_of l.fn.writer l.ends l.self ≡ rest_of l.fn.writer l.ends l.fn.self) ×
    HasNoneOf l.self l.fn.writer ×
    ToCome l.self l.ends l.ended-iterator
