use Rattle.std.proofs.Common.{◌≡◌, drop}
use Rattle.master_acks.specs.Inside.{has_ended_in}
use Rattle.master_acks.proofs.ends.has_ended_in.Given as goal

abbrev pub invariant-loop-other : goal.invariant-loop-other
invariant-loop-other l = has_ended_in (drop l.other-index l.ended) l.txn ≡ has_ended_in l.ended l.txn
