use Rattle.std.proofs.Common.{ap}
use Rattle.std.specs.Prelude.{Some}
use Rattle.std.specs.Map.{keys_of}
use Rattle.std.specs.FinMap as fin
use Rattle.tm_data.specs.Orders.{txn_cmp-total, txn_cmp-exact}
use Rattle.key_model.specs.Inside.{valued, over}
use Rattle.key_model.proofs.PlaceLemmas.{ok_only, some_not_none, all_here, all_next, over_turn}
use Rattle.key_model.proofs.settled.enter_ends.Goals as goal

pub loop-txn-preserved : goal.loop-txn-preserved
loop-txn-preserved c =
    let its = keys_of c.loop-txn.txn-iterator in
    let rest = keys_of c.next.new.self in
    let t = c.in-Some.txn.now in
    let inv = c.loop-txn.invariant in
    let new = ok_only c.insert.result c.insert.ensures.ok c.insert.ensures.absent
    (some_not_none _ (all_here txn_cmp-total txn_cmp-exact c.loop-txn.places its rest t (ap keys_of c.in-Some.ensures.steps) inv.2)) in (
      tt,
      tt,
      all_next txn_cmp-total txn_cmp-exact c.loop-txn.places c.insert.new.self its rest t (Some c.in-Some.committed.now) (ap keys_of c.in-Some.ensures.steps) inv.2 new,
      over_turn txn_cmp-total txn_cmp-exact c.loop-txn.places c.insert.new.self c.loop-txn.txn-iterator c.next.new.self t c.in-Some.committed.now
          (over (valued c.args.places.now) (fin.entries c.args.ends.now)) c.in-Some.ensures.steps inv.3 new,
    )
