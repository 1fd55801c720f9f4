use Rattle.std.proofs.Common.{◌∙◌, ap}
use Rattle.tm_data.specs.Orders.{txn_cmp-total, txn_cmp-exact}
use Rattle.key_model.specs.Inside.{valued}
use Rattle.key_model.proofs.PlaceLemmas.{valued-insert}
use Rattle.key_model.proofs.settled.enter_end.Goals as goal

pub returns-clause-ok : goal.returns-clause-ok
returns-clause-ok c = ap valued c.in_ok-insert.ensures.ok ∙ valued-insert txn_cmp-total txn_cmp-exact c.args.places.now c.args.txn c.args.committed
