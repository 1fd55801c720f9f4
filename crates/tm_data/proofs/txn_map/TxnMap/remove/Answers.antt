use Rattle.std.proofs.Common.{sym, ◌∙◌, ap}
use Rattle.std.specs.FinMap.{FinMap, get, remove}
use Rattle.tm_data.specs.Orders.{txn_cmp, txn_cmp-total, txn_cmp-exact}
use Rattle.tm_data.specs.Maps.{get-as_map, remove-as_map}
use Rattle.tm_data.proofs.txn_map.TxnMap.remove.Goals as goal

pub returns-clause-value : goal.returns-clause-value
returns-clause-value g c = c.remove.ensures.value ∙ sym (get-as_map txn_cmp-total c.self.inside.values c.args.txn.now) ∙ ap (λ (m : FinMap txn_cmp g.row.V.Denot). get m c.args.txn.now) c.self.view_is

pub returns-clause-removed : goal.returns-clause-removed
returns-clause-removed g c =
    remove-as_map txn_cmp-total txn_cmp-exact c.self.inside.values c.remove.new.self c.args.txn.now c.remove.ensures.updates.0
    ∙ ap (λ (m : FinMap txn_cmp g.row.V.Denot). remove m c.args.txn.now) c.self.view_is
