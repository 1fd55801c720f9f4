use Rattle.std.proofs.Common.{◌≡◌, drop}
use Rattle.master_recovery.specs.Gathered.{with_records}
use Rattle.master_recovery.proofs.batch.Batch.add_group.Given as goal

abbrev pub invariant-loop-change : goal.invariant-loop-change
invariant-loop-change l =
    with_records l.writer.0 l.group.stamp.0 l.self (drop l.change-index l.group.records) ≡ with_records l.writer.0 l.group.stamp.0 l.fn.self l.group.records
