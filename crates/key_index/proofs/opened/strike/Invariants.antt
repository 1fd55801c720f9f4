use Rattle.key_index.specs.Touched.{StillAmong}
use Rattle.key_index.proofs.opened.strike.Given as goal

abbrev pub invariant-loop-key : goal.invariant-loop-key
invariant-loop-key l =
    (goal.iterator-loop-key).can_next l.key-iterator ×
    (goal.iterator-loop-key).is_finite l.key-iterator ×
    StillAmong l.fn.index l.index l.txn
