use Rattle.std.proofs.Common.{rules, ◌≡◌, ◌∙◌, None, Some, ap, sym}
use Rattle.std.specs.Prelude.{is_some}
use Rattle.std.specs.FinMap as fin
use Rattle.tm_data.specs.Orders.{txn_cmp-total, txn_cmp-exact}
use Rattle.master_recovery.proofs.PlaceLemmas.{get-valued, or_gone}
use Rattle.master_recovery.proofs.txn_places.has_end.Goals as goal

pub returns-in-Some : goal.returns-in-Some
returns-in-Some c =
    let found : fin.get c.args.places.now c.args.txn ≡ Some c.in-Some.place.now = search rules in
    let told : c.is_some.result ≡ is_some c.in-Some.place.now = search rules in
    told ∙ sym (ap is_some (get-valued txn_cmp-total txn_cmp-exact c.args.places.now c.args.txn ∙ ap or_gone found))

pub returns-in-None : goal.returns-in-None
returns-in-None c =
    let none : fin.get c.args.places.now c.args.txn ≡ None = search rules in
    sym (ap is_some (get-valued txn_cmp-total txn_cmp-exact c.args.places.now c.args.txn ∙ ap or_gone none))
