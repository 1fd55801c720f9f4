use Rattle.std.proofs.Common.{◌+◌, ◌++◌, List, refl, ap, ◌∙◌, arith}
use Rattle.tm_data.specs.declared.transaction.Txn.{Txn}
use Rattle.log_writer.specs.Log.{group_of, numbered}
use Rattle.master_model.specs.Acks.{ends_between}
use Rattle.master_acks.specs.Inside.{txns}
use Rattle.master_acks.proofs.EndLemmas.{step_more}
use Rattle.master_acks.proofs.ends.ended_between.Goals as goal

pub loop-seq-preserved : goal.loop-seq-preserved
loop-seq-preserved c =
    let log = c.args.work.now.log in
    let at = c.loop-seq.seq in
    let new = c.args.new in (
      omega (arith, c.loop-seq.invariant.0),
      ap (λ (ts : List Txn). ts ++ txns (ends_between log (at + 1) new)) c.in_ok-add_group.ensures
          ∙ step_more c.loop-seq.ended.items log at new (txns (ends_between log c.args.old new)) (group_of (numbered log (at + 1))) (omega (arith, c.requires, c.loop-seq.invariant.0)) c.loop-seq-test.true refl c.loop-seq.invariant.1,
    )
