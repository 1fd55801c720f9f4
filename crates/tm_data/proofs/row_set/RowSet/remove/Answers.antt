use Rattle.std.proofs.Common.{◌∙◌, ap}
use Rattle.std.specs.FinMap.{remove}
use Rattle.tm_data.specs.Orders.{row_cmp-total, row_cmp-exact}
use Rattle.tm_data.specs.Maps.{remove-as_keys}
use Rattle.tm_data.proofs.row_set.RowSet.remove.Goals as goal

pub returns : goal.returns
returns c = remove-as_keys row_cmp-total row_cmp-exact c.self.inside.rows c.remove.new.self c.args.key.now c.remove.ensures.updates.0 ∙ ap (λ s. remove s c.args.key.now) c.self.view_is
