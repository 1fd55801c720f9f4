use Rattle.std.proofs.Common.{◌≡◌, ◌+◌, length}
use Rattle.lock_table.specs.Tags.{without_txn, tags_of}
use Rattle.lock_table.proofs.tags.Tags.end_of.Given as goal

abbrev pub invariant-loop-txn : goal.invariant-loop-txn
invariant-loop-txn g l =
    record {
      others : without_txn l.self l.txn ≡ without_txn l.initial.self l.txn;
      count : l.steps + length (tags_of l.self l.txn) ≡ l.initial.steps + length (tags_of l.initial.self l.txn);
    }

abbrev pub decreases-loop-txn : goal.decreases-loop-txn
decreases-loop-txn g l = length (tags_of l.self l.txn)
