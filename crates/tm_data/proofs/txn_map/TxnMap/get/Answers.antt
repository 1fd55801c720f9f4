use Rattle.std.proofs.Common.{sym, ◌∙◌, ap}
use Rattle.std.specs.FinMap.{FinMap, get}
use Rattle.tm_data.specs.Orders.{txn_cmp, txn_cmp-total}
use Rattle.tm_data.specs.Maps.{get-as_map}
use Rattle.tm_data.proofs.txn_map.TxnMap.get.Goals as goal

pub returns : goal.returns
returns g c = c.get.ensures.value ∙ sym (get-as_map txn_cmp-total c.self.inside.values c.args.txn.now) ∙ ap (λ (m : FinMap txn_cmp g.row.V.Denot). get m c.args.txn.now) c.self.view_is
