use Rattle.std.specs.Prelude.{Some}
use Rattle.tm_data.specs.Orders.{txn_cmp-total, txn_cmp-exact}
use Rattle.master_recovery.specs.Places.{itself, nothing, valued, with_items}
use Rattle.master_recovery.proofs.PlaceLemmas.{all_here, all_next, turn}
use Rattle.master_recovery.proofs.txn_places.enter.Goals as goal

pub loop-txn-preserved : goal.loop-txn-preserved
loop-txn-preserved c =
    let its = c.loop-txn.txn-iterator.rest.items in
    let rest = c.next.new.self.rest.items in
    let k = c.in-Some.txn in
    let inv = c.loop-txn.invariant in
    let new = c.set.ensures in (
      tt,
      tt,
      all_next txn_cmp-total txn_cmp-exact itself c.loop-txn.places c.set.new.places its rest k (Some tt) c.in-Some.ensures.steps.0 inv.2 new,
      turn txn_cmp-total txn_cmp-exact itself nothing c.loop-txn.places c.set.new.places its rest k (with_items itself nothing (valued c.args.places.now) c.args.txns) c.in-Some.ensures.steps.0 inv.3 new,
    )

pub set-requires : goal.set-requires
set-requires c =
    all_here txn_cmp-total txn_cmp-exact itself c.loop-txn.places c.loop-txn.txn-iterator.rest.items c.next.new.self.rest.items c.in-Some.txn c.in-Some.ensures.steps.0 c.loop-txn.invariant.2
