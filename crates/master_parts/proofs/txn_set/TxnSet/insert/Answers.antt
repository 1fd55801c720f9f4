use Rattle.std.proofs.Common.{◌∙◌, ap}
use Rattle.std.specs.FinSet.{insert}
use Rattle.tm_data.specs.Orders.{txn_cmp-total, txn_cmp-exact}
use Rattle.tm_data.specs.Maps.{insert-as_set}
use Rattle.master_parts.proofs.txn_set.TxnSet.insert.Goals as goal

pub returns-clause-ok : goal.returns-clause-ok
returns-clause-ok c =
    insert-as_set txn_cmp-total txn_cmp-exact c.self.inside.txns c.insert.new.self c.args.txn c.in_ok-insert.ensures.updates.0
    ∙ ap (λ s. insert s c.args.txn) c.self.view_is
