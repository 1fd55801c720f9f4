use Rattle.std.proofs.Common.{◌++◌, ap, ◌∙◌}
use Rattle.std.specs.FinMap.{entries}
use Rattle.store_model.specs.PageStep.{fetches}
use Rattle.page_store.proofs.state.State.fetches.Goals as goal

pub loop-entry-init : goal.loop-entry-init
loop-entry-init c = (
  tt,
  tt,
  ap (λ outputs. outputs ++ fetches c.args.self.now c.into_iter-entry-iterator.result) c.new-outputs.ensures
      ∙ (ap (fetches c.args.self.now) (c.into_iter-entry-iterator.ensures.into_iter_gives ∙ c.iter-entry-items.ensures.rest)
      ∙ ap (λ s. fetches c.args.self.now (entries s.roster)) c.self.view_is),
)
