use Rattle.std.proofs.Common.{◌∙◌, sym, ap, rules}
use Rattle.std.specs.Map.{keys_of}
use Rattle.std.specs.FinMap as fin
use Rattle.tm_data.specs.Orders.{txn_cmp-total, txn_cmp-exact}
use Rattle.key_model.proofs.PlaceLemmas.{reserves_new, reserved, same_place, copied_none}
use Rattle.key_model.proofs.settled.reserve_ends.Goals as goal

pub loop-txn-preserved-in-Continue-1 : goal.loop-txn-preserved-in-Continue-1
loop-txn-preserved-in-Continue-1 c =
    let inv = c.loop-txn.invariant in
    let none = sym c.get.ensures ∙ copied_none c.get.result (search rules) in (
      tt,
      tt,
      same_place txn_cmp-total txn_cmp-exact c.loop-txn.places c.insert.new.self c.args.places.now c.in-Some.txn.now c.in_ok-insert.ensures.ok none inv.2,
      reserves_new txn_cmp-total txn_cmp-exact c.loop-txn.places c.insert.new.self (keys_of c.loop-txn.txn-iterator) (keys_of c.next.new.self) (fin.keys c.args.ends.now) c.in-Some.txn.now
          (ap keys_of c.in-Some.ensures.steps) c.in_ok-insert.ensures.ok inv.3,
    )

pub returns-clause-ready : goal.returns-clause-ready
returns-clause-ready c =
    reserved txn_cmp-total txn_cmp-exact c.loop-txn.places (keys_of c.loop-txn.txn-iterator) (fin.keys c.args.ends.now) (ap keys_of c.in-None.ensures.steps.0) c.loop-txn.invariant.3
