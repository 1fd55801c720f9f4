use Rattle.std.proofs.Common.{◌≡◌, ◌≤◌, ◌++◌}
use Rattle.master_model.specs.Acks.{ends_between}
use Rattle.master_acks.specs.Inside.{txns}
use Rattle.master_acks.proofs.ends.ended_between.Given as goal

abbrev pub invariant-loop-seq : goal.invariant-loop-seq
invariant-loop-seq l = (l.old ≤ l.seq) × (l.ended.items ++ txns (ends_between l.work.log l.seq l.new) ≡ txns (ends_between l.work.log l.old l.new))
