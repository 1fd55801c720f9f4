use Rattle.std.proofs.Common.{sym, ◌∙◌, ap}
use Rattle.std.specs.FinMap.{FinMap, get, remove}
use Rattle.tm_data.specs.Orders.{row_cmp, row_cmp-total, row_cmp-exact}
use Rattle.tm_data.specs.Maps.{get-as_map, remove-as_map}
use Rattle.tm_data.proofs.row_map.RowMap.remove.Goals as goal

pub returns-clause-value : goal.returns-clause-value
returns-clause-value g c = c.remove.ensures.value ∙ sym (get-as_map row_cmp-total c.self.inside.rows c.args.key.now) ∙ ap (λ (m : FinMap row_cmp g.row.V.Denot). get m c.args.key.now) c.self.view_is

pub returns-clause-removed : goal.returns-clause-removed
returns-clause-removed g c =
    remove-as_map row_cmp-total row_cmp-exact c.self.inside.rows c.remove.new.self c.args.key.now c.remove.ensures.updates.0
    ∙ ap (λ (m : FinMap row_cmp g.row.V.Denot). remove m c.args.key.now) c.self.view_is
