use Rattle.std.proofs.Common.{◌∙◌, ap}
use Rattle.std.specs.FinSet.{remove}
use Rattle.tm_data.specs.Orders.{txn_cmp-total, txn_cmp-exact}
use Rattle.tm_data.specs.Maps.{remove-as_set}
use Rattle.master_parts.proofs.txn_set.TxnSet.remove.Goals as goal

pub returns : goal.returns
returns c = remove-as_set txn_cmp-total txn_cmp-exact c.self.inside.txns c.remove.new.self c.args.txn c.remove.ensures.updates.0 ∙ ap (λ s. remove s c.args.txn) c.self.view_is
