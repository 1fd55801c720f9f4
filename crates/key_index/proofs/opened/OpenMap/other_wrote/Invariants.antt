use Rattle.std.proofs.Common.{◌≡◌}
use Rattle.std.specs.FinMap as fin
use Rattle.key_index.specs.Touched.{wrote, wrote_by_other}
use Rattle.key_index.proofs.CoverLemmas.{held_by_other}
use Rattle.key_index.proofs.opened.OpenMap.other_wrote.Given as goal

abbrev pub invariant-loop-other : goal.invariant-loop-other
invariant-loop-other l =
    (goal.iterator-loop-other).can_next l.other-iterator ×
    (goal.iterator-loop-other).is_finite l.other-iterator ×
    (held_by_other wrote l.other-iterator l.self l.txn l.key ≡ wrote_by_other (fin.entries l.self) l.txn l.key)
