use Rattle.lock_table.proofs.Hashed.{txn_drops}
use Rattle.lock_table.proofs.heads.TxnHeads.remove.Goals as goal

pub returns : goal.returns
returns c = txn_drops c.self.inside.heads.entries c.remove.new.self.entries c.args.self.now c.args.txn c.remove.ensures.updates.0 c.self.view_is
