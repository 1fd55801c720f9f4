use Rattle.std.proofs.Common.{sym, ◌∙◌, ap}
use Rattle.std.specs.FinMap.{FinMap, get}
use Rattle.tm_data.specs.Orders.{row_cmp, row_cmp-total}
use Rattle.tm_data.specs.Maps.{get-as_map}
use Rattle.tm_data.proofs.row_map.RowMap.get.Goals as goal

pub returns : goal.returns
returns g c = c.get.ensures.value ∙ sym (get-as_map row_cmp-total c.self.inside.rows c.args.key.now) ∙ ap (λ (m : FinMap row_cmp g.row.V.Denot). get m c.args.key.now) c.self.view_is
