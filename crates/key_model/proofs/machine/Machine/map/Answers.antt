use Rattle.std.proofs.Common.{◌∙◌, sym, ap}
use Rattle.std.specs.Prelude.{◌++◌}
use Rattle.std.specs.FinMap as fin
use Rattle.key_model.specs.Inside.{entries_of, kept}
use Rattle.key_model.proofs.ValuedLemmas.{entries-valued}
use Rattle.key_model.proofs.machine.Machine.map.Goals as goal

pub loop-key-init : goal.loop-key-init
loop-key-init c = (
  tt,
  tt,
  ap (λ list. list ++ entries_of (kept c.into_iter-key-iterator.result)) c.new-list.ensures
      ∙ ap (λ es. entries_of (kept es)) (c.into_iter-key-iterator.ensures.into_iter_gives ∙ c.iter-key-items.ensures.rest)
      ∙ ap entries_of (sym (entries-valued c.self.inside.places) ∙ ap (λ s. fin.entries s.map) c.self.view_is),
)
