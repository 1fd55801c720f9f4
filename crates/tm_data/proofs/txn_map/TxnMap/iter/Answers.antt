use Rattle.std.proofs.Common.{sym, ◌∙◌, ap}
use Rattle.std.specs.FinMap.{FinMap, entries}
use Rattle.tm_data.specs.Orders.{txn_cmp, txn_cmp-total}
use Rattle.tm_data.specs.Maps.{entries-as_map}
use Rattle.tm_data.proofs.txn_map.TxnMap.iter.Goals as goal

pub returns-clause-rest : goal.returns-clause-rest
returns-clause-rest g c = c.iter.ensures.rest ∙ sym (entries-as_map txn_cmp-total c.self.inside.values c.iter.ensures.ordered) ∙ ap (λ (m : FinMap txn_cmp g.row.V.Denot). entries m) c.self.view_is
