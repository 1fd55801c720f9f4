use Rattle.std.proofs.Common.{◌∙◌, sym, ap}
use Rattle.std.specs.FinMap as fin
use Rattle.tm_data.specs.Maps.{entries-as_map}
use Rattle.key_model.specs.State.{dying_cmp-total}
use Rattle.key_model.specs.Inside.{locks_in}
use Rattle.key_model.proofs.DyingLemmas.{locks_there}
use Rattle.key_model.proofs.FirstLemmas.{walked, walk_locks}
use Rattle.key_model.proofs.closed.DyingMap.locks.Goals as goal

pub loop-dying-init : goal.loop-dying-init
loop-dying-init c =
    let first = c.args.first.now in (
      tt,
      tt,
      ap (λ es. walked es first.row) (c.into_iter-dying-iterator.ensures.into_iter_gives ∙ c.range-dying-items.ensures.between tt)
          ∙ walk_locks first c.requires c.self.inside.places.entries c.range-dying-items.ensures.ordered
          ∙ ap (λ es. locks_in es first.row) (sym (entries-as_map dying_cmp-total c.self.inside.places c.range-dying-items.ensures.ordered) ∙ ap fin.entries c.self.view_is)
          ∙ locks_there c.args.self.now first.row,
    )
