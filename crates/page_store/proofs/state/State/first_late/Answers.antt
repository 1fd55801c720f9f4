use Rattle.std.proofs.Common.{ap, ◌∙◌}
use Rattle.std.specs.FinMap.{entries}
use Rattle.store_model.specs.PageReads.{first_late}
use Rattle.page_store.proofs.state.State.first_late.Goals as goal

pub loop-told-init : goal.loop-told-init
loop-told-init c = (
  tt,
  tt,
  ap (first_late c.args.self.now c.args.stamp.0) (c.into_iter-told-iterator.ensures.into_iter_gives ∙ c.iter-told-items.ensures.rest)
      ∙ ap (λ s. first_late c.args.self.now c.args.stamp.0 (entries s.roster)) c.self.view_is,
)
