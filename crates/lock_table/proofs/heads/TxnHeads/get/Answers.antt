use Rattle.std.proofs.Common.{◌∙◌}
use Rattle.lock_table.proofs.Hashed.{txn_has}
use Rattle.lock_table.proofs.heads.TxnHeads.get.Goals as goal

pub returns : goal.returns
returns c = txn_has c.self.inside.heads.entries c.args.self.now c.args.txn _ (c.copied.ensures ∙ c.get.ensures.value) c.self.view_is
