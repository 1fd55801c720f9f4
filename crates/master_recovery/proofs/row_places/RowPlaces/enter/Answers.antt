use Rattle.std.specs.Prelude.{Some}
use Rattle.master_recovery.specs.Rows.{written_cmp-total, written_cmp-exact}
use Rattle.master_recovery.specs.Places.{itself, nothing, valued, with_items}
use Rattle.master_recovery.proofs.PlaceLemmas.{all_here, all_next, turn}
use Rattle.master_recovery.proofs.row_places.RowPlaces.enter.Goals as goal

pub loop-written-preserved : goal.loop-written-preserved
loop-written-preserved c =
    let its = c.loop-written.written-iterator.rest.items in
    let rest = c.next.new.self.rest.items in
    let k = c.in-Some.written in
    let inv = c.loop-written.invariant in
    let new = c.set.ensures in (
      tt,
      tt,
      all_next written_cmp-total written_cmp-exact itself c.loop-written.self c.set.new.self its rest k (Some tt) c.in-Some.ensures.steps.0 inv.2 new,
      turn written_cmp-total written_cmp-exact itself nothing c.loop-written.self c.set.new.self its rest k (with_items itself nothing (valued c.args.self.now) c.args.rows) c.in-Some.ensures.steps.0 inv.3 new,
    )

pub set-requires : goal.set-requires
set-requires c =
    all_here written_cmp-total written_cmp-exact itself c.loop-written.self c.loop-written.written-iterator.rest.items c.next.new.self.rest.items c.in-Some.written c.in-Some.ensures.steps.0 c.loop-written.invariant.2
