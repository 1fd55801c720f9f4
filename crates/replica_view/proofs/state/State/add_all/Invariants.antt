use Rattle.std.proofs.Common.{◌≡◌, ◌++◌, None, drop, take}
use Rattle.replica_model.specs.Reads.{pairs_in}
use Rattle.replica_view.specs.Answers.{pairs_of}
use Rattle.replica_view.proofs.state.State.add_all.Given as goal

abbrev pub invariant-loop-row : goal.invariant-loop-row
invariant-loop-row l =
    pairs_of l.pairs ++ take l.left (pairs_in l.self l.cut None (drop l.row-index l.rows)) ≡ pairs_of l.initial.pairs ++ take l.count (pairs_in l.self l.cut None l.rows)
