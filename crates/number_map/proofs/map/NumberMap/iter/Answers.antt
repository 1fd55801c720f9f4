use Rattle.std.proofs.Common.{sym, ◌∙◌, ap}
use Rattle.std.specs.Ordering.{nat_cmp}
use Rattle.std.specs.Cmp.{nat_cmp_total}
use Rattle.std.specs.FinMap.{FinMap, entries}
use Rattle.tm_data.specs.Maps.{entries-as_map}
use Rattle.number_map.proofs.map.NumberMap.iter.Goals as goal

pub returns-clause-rest : goal.returns-clause-rest
returns-clause-rest g c = c.iter.ensures.rest ∙ sym (entries-as_map nat_cmp_total c.self.inside.values c.iter.ensures.ordered) ∙ ap (λ (m : FinMap nat_cmp g.row.V.Denot). entries m) c.self.view_is
