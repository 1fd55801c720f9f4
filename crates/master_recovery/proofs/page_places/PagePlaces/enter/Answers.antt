use Rattle.std.specs.Prelude.{Some}
use Rattle.std.specs.Cmp.{nat_cmp_total}
use Rattle.std.specs.FinMap.{nat_cmp-IsAntisymmetric}
use Rattle.master_recovery.specs.Places.{page_key, stamp_value, valued, with_items}
use Rattle.master_recovery.proofs.PlaceLemmas.{all_here, all_next, turn}
use Rattle.master_recovery.proofs.page_places.PagePlaces.enter.Goals as goal

pub loop-item-preserved : goal.loop-item-preserved
loop-item-preserved c =
    let its = c.loop-item.item-iterator.rest.items in
    let rest = c.next.new.self.rest.items in
    let k = c.in-Some.item in
    let inv = c.loop-item.invariant in
    let new = c.set.ensures in (
      tt,
      tt,
      all_next nat_cmp_total nat_cmp-IsAntisymmetric page_key c.loop-item.self c.set.new.self its rest k (Some k.stamp.0) c.in-Some.ensures.steps.0 inv.2 new,
      turn nat_cmp_total nat_cmp-IsAntisymmetric page_key stamp_value c.loop-item.self c.set.new.self its rest k (with_items page_key stamp_value (valued c.args.self.now) c.args.pages) c.in-Some.ensures.steps.0 inv.3 new,
    )

pub set-requires : goal.set-requires
set-requires c =
    all_here nat_cmp_total nat_cmp-IsAntisymmetric page_key c.loop-item.self c.loop-item.item-iterator.rest.items c.next.new.self.rest.items c.in-Some.item c.in-Some.ensures.steps.0 c.loop-item.invariant.2
