use Rattle.std.proofs.Common.{◌≡◌, ◌++◌, drop}
use Rattle.master_model.specs.Acks.{ends_in}
use Rattle.master_acks.specs.Inside.{txns}
use Rattle.master_acks.proofs.ends.add_ended.Given as goal

abbrev pub invariant-loop-change : goal.invariant-loop-change
invariant-loop-change l = l.ended.items ++ txns (ends_in (drop l.change-index l.records)) ≡ l.initial.ended.items ++ txns (ends_in l.records)
