use Rattle.std.proofs.Common.{sym, ◌∙◌, ap}
use Rattle.std.specs.FinMap.{FinMap, get, insert}
use Rattle.tm_data.specs.Orders.{txn_cmp, txn_cmp-total, txn_cmp-exact}
use Rattle.tm_data.specs.Maps.{get-as_map, insert-as_map}
use Rattle.tm_data.proofs.txn_map.TxnMap.insert.Goals as goal

pub returns-clause-ok : goal.returns-clause-ok
returns-clause-ok g c =
    insert-as_map txn_cmp-total txn_cmp-exact c.self.inside.values c.insert.new.self c.args.txn c.args.value c.in-Ok.ensures.updates.0
    ∙ ap (λ (m : FinMap txn_cmp g.row.V.Denot). insert m c.args.txn c.args.value) c.self.view_is

pub returns-in_default-clause-absent : goal.returns-in_default-clause-absent
returns-in_default-clause-absent g c =
    sym (ap (λ (m : FinMap txn_cmp g.row.V.Denot). get m c.args.txn) c.self.view_is) ∙ get-as_map txn_cmp-total c.self.inside.values c.args.txn ∙ c.in_default.ensures.absent
