use Rattle.std.proofs.Common.{◌≡◌, drop}
use Rattle.master_acks.specs.Inside.{without_each}
use Rattle.master_acks.proofs.ends.end_all.Given as goal

abbrev pub invariant-loop-txn : goal.invariant-loop-txn
invariant-loop-txn l = without_each l.tags (drop l.txn-index l.ended) ≡ without_each l.initial.tags l.ended
