use Rattle.std.proofs.Common.{◌≡◌}
use Rattle.std.specs.FinMap as fin
use Rattle.key_model.specs.After.{holds}
use Rattle.key_model.proofs.SessionLemmas.{walked}
use Rattle.key_model.proofs.sessions.SessionMap.has.Given as goal

abbrev pub invariant-loop-held : goal.invariant-loop-held
invariant-loop-held l =
    (goal.iterator-loop-held).can_next l.held-iterator ×
    (goal.iterator-loop-held).is_finite l.held-iterator ×
    (walked l.self l.held-iterator l.txn ≡ holds (fin.entries l.self) l.txn)
