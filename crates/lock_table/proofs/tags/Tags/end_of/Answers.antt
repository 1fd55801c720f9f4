use Rattle.std.proofs.Common.{◌∙◌, ap}
use Rattle.lock_table.specs.Tags.{Tags, without_txn}
use Rattle.lock_table.proofs.Tables.{of_txn}
use Rattle.lock_table.proofs.Values.{same_without}
use Rattle.lock_table.proofs.tags.Tags.end_of.Goals as goal

pub returns-clause-gone : goal.returns-clause-gone
returns-clause-gone g c =
    let end = c.take_of.ensures.none c.loop-txn-test.false in
    end.2 ∙ (same_without (of_txn c.args.txn) c.loop-txn.self end.1 ∙ c.loop-txn.invariant.others) ∙ ap (λ (tags : Tags). without_txn tags c.args.txn) c.forget_of.ensures
