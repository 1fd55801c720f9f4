use Rattle.std.proofs.Common.{sym, ◌∙◌, ap}
use Rattle.std.specs.FinSet.{contains}
use Rattle.tm_data.specs.Orders.{txn_cmp-total}
use Rattle.tm_data.specs.Maps.{contains-as_set}
use Rattle.master_parts.proofs.txn_set.TxnSet.contains.Goals as goal

pub returns : goal.returns
returns c = c.contains.ensures ∙ sym (contains-as_set txn_cmp-total c.self.inside.txns c.args.txn) ∙ ap (λ s. contains s c.args.txn) c.self.view_is
