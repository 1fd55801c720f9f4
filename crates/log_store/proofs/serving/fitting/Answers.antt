use Rattle.std.proofs.Common.{◌+◌, ◌++◌, [], ◌∷◌, drop, false, sym, ap, ◌∙◌, arith}
use Rattle.store_model.specs.LogStep.{fits, fitting}
use Rattle.log_store.proofs.FitLemmas.{fit_more, fit_all}
use Rattle.log_store.proofs.serving.fitting.Goals as goal

pub loop-group-preserved : goal.loop-group-preserved
loop-group-preserved c = (
  omega (arith, c.saturating_sub-room.ensures, c.loop-group.invariant.0),
  ap (λ l. l ++ fits false c.saturating_sub-room.result (drop (c.loop-group.group-index + 1) c.args.groups.now)) (c.in_ok-push.ensures.ok ∙ ap (λ g. c.loop-group.served ++ g ∷ []) c.in_ok-copy.ensures)
      ∙ fit_more c.args.groups.now c.loop-group.served (fitting c.args.groups.now) c.loop-group.group-index c.group-item.result c.loop-group.is_first c.loop-group.room c.group_size-size.result c.saturating_sub-room.result
      c.loop-group-test.true c.group-item.is c.loop-group.invariant.0 c.group_size-size.ensures (sym c.goes_in.ensures ∙ c.if-not-goes_in.false) c.saturating_sub-room.ensures c.loop-group.invariant.1,
)

pub returns : goal.returns
returns c =
    fit_all c.args.groups.now c.loop-group.served (fitting c.args.groups.now) c.loop-group.group-index c.loop-group.is_first c.loop-group.room c.loop-group-test.false c.loop-group.invariant.1
