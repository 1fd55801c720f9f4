use Rattle.std.proofs.Common.{sym, ◌∙◌, ap}
use Rattle.std.specs.FinMap.{FinMap, entries}
use Rattle.tm_data.specs.Orders.{row_cmp, row_cmp-total}
use Rattle.tm_data.specs.Maps.{entries-as_map}
use Rattle.tm_data.proofs.row_map.RowMap.into_rows.Goals as goal

pub returns-clause-rest : goal.returns-clause-rest
returns-clause-rest g c =
    c.into_iter.ensures.into_iter_gives.0 ∙ sym (entries-as_map row_cmp-total c.self.inside.rows c.into_iter.ensures.into_iter_gives.5)
    ∙ ap (λ (m : FinMap row_cmp g.row.V.Denot). entries m) c.self.view_is
