use Rattle.std.proofs.Common.{◌∙◌, sym, ap}
use Rattle.tm_data.specs.Orders.{txn_cmp-total, txn_cmp-exact}
use Rattle.key_model.proofs.PlaceLemmas.{get-valued, or_gone}
use Rattle.key_model.proofs.settled.outcome_of.Goals as goal

pub returns-in-Some : goal.returns-in-Some
returns-in-Some c = ap or_gone c.in-Some.ensures ∙ sym (get-valued txn_cmp-total txn_cmp-exact c.args.places.now c.args.txn.now)

pub returns-in-None : goal.returns-in-None
returns-in-None c = ap or_gone c.in-None.ensures ∙ sym (get-valued txn_cmp-total txn_cmp-exact c.args.places.now c.args.txn.now)
