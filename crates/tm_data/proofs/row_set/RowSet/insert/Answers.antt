use Rattle.std.proofs.Common.{◌∙◌, ap}
use Rattle.std.specs.FinMap.{insert}
use Rattle.tm_data.specs.Orders.{row_cmp-total, row_cmp-exact}
use Rattle.tm_data.specs.Maps.{insert-as_keys}
use Rattle.tm_data.proofs.row_set.RowSet.insert.Goals as goal

pub returns-clause-ok : goal.returns-clause-ok
returns-clause-ok c =
    insert-as_keys row_cmp-total row_cmp-exact c.self.inside.rows c.insert.new.self c.args.key c.in_ok-insert.ensures.updates.0
    ∙ ap (λ s. insert s c.args.key tt) c.self.view_is
