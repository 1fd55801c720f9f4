use Rattle.std.specs.Prelude.{Some}
use Rattle.key_model.specs.State.{dying_cmp-total, dying_cmp-exact}
use Rattle.key_model.specs.Inside.{there, with_rows}
use Rattle.key_model.proofs.PlaceLemmas.{all_here, all_next}
use Rattle.key_model.proofs.DyingLemmas.{lock_turn}
use Rattle.key_model.proofs.closed.DyingMap.enter.Goals as goal

pub loop-dying-preserved : goal.loop-dying-preserved
loop-dying-preserved c =
    let its = c.loop-dying.dying-iterator.rest.items in
    let rest = c.next.new.self.rest.items in
    let inv = c.loop-dying.invariant in
    let new = c.lock.ensures in (
      tt,
      tt,
      all_next dying_cmp-total dying_cmp-exact c.loop-dying.self c.lock.new.self its rest c.in-Some.dying (Some tt) c.in-Some.ensures.steps.0 inv.2 new,
      lock_turn c.loop-dying.self c.lock.new.self its rest c.in-Some.dying (with_rows (there c.args.self.now) c.args.rows) c.in-Some.ensures.steps.0 inv.3 new,
    )

pub lock-requires : goal.lock-requires
lock-requires c =
    all_here dying_cmp-total dying_cmp-exact c.loop-dying.self c.loop-dying.dying-iterator.rest.items c.next.new.self.rest.items c.in-Some.dying c.in-Some.ensures.steps.0 c.loop-dying.invariant.2
