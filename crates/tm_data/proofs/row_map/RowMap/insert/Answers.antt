use Rattle.std.proofs.Common.{sym, ◌∙◌, ap}
use Rattle.std.specs.FinMap.{FinMap, get, insert}
use Rattle.tm_data.specs.Orders.{row_cmp, row_cmp-total, row_cmp-exact}
use Rattle.tm_data.specs.Maps.{get-as_map, insert-as_map}
use Rattle.tm_data.proofs.row_map.RowMap.insert.Goals as goal

pub returns-clause-ok : goal.returns-clause-ok
returns-clause-ok g c =
    insert-as_map row_cmp-total row_cmp-exact c.self.inside.rows c.insert.new.self c.args.key c.args.value c.in-Ok.ensures.updates.0
    ∙ ap (λ (m : FinMap row_cmp g.row.V.Denot). insert m c.args.key c.args.value) c.self.view_is

pub returns-in_default-clause-absent : goal.returns-in_default-clause-absent
returns-in_default-clause-absent g c =
    sym (ap (λ (m : FinMap row_cmp g.row.V.Denot). get m c.args.key) c.self.view_is) ∙ get-as_map row_cmp-total c.self.inside.rows c.args.key ∙ c.in_default.ensures.absent
