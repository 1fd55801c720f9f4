use Rattle.std.proofs.Common.{sym, ◌∙◌, ap}
use Rattle.std.specs.FinMap.{keys}
use Rattle.tm_data.specs.Orders.{row_cmp-total}
use Rattle.tm_data.specs.Maps.{keys-as_keys}
use Rattle.tm_data.proofs.row_set.RowSet.iter.Goals as goal

pub returns : goal.returns
returns c = c.iter.ensures.rest ∙ sym (keys-as_keys row_cmp-total c.self.inside.rows c.iter.ensures.ordered) ∙ ap keys c.self.view_is
