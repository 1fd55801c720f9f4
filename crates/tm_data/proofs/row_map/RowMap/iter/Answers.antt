use Rattle.std.proofs.Common.{sym, ◌∙◌, ap}
use Rattle.std.specs.FinMap.{FinMap, entries}
use Rattle.tm_data.specs.Orders.{row_cmp, row_cmp-total}
use Rattle.tm_data.specs.Maps.{entries-as_map}
use Rattle.tm_data.proofs.row_map.RowMap.iter.Goals as goal

pub returns-clause-rest : goal.returns-clause-rest
returns-clause-rest g c = c.iter.ensures.rest ∙ sym (entries-as_map row_cmp-total c.self.inside.rows c.iter.ensures.ordered) ∙ ap (λ (m : FinMap row_cmp g.row.V.Denot). entries m) c.self.view_is
