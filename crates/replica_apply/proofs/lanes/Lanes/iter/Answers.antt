use Rattle.std.proofs.Common.{sym, ◌∙◌, ap}
use Rattle.std.specs.Cmp.{nat_cmp_total}
use Rattle.std.specs.FinMap.{entries}
use Rattle.tm_data.specs.Maps.{entries-as_map}
use Rattle.replica_model.specs.Order.{Lines}
use Rattle.replica_apply.proofs.lanes.Lanes.iter.Goals as goal

pub returns-clause-rest : goal.returns-clause-rest
returns-clause-rest c = c.iter.ensures.rest ∙ sym (entries-as_map nat_cmp_total c.self.inside.lanes c.iter.ensures.ordered) ∙ ap (λ (m : Lines). entries m) c.self.view_is
