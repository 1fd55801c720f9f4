use Rattle.std.proofs.Common.{sym, ◌∙◌, ap}
use Rattle.std.specs.FinMap.{contains_key}
use Rattle.tm_data.specs.Orders.{row_cmp-total}
use Rattle.tm_data.specs.Maps.{contains-as_keys}
use Rattle.tm_data.proofs.row_set.RowSet.contains.Goals as goal

pub returns : goal.returns
returns c = c.contains.ensures ∙ sym (contains-as_keys row_cmp-total c.self.inside.rows c.args.key.now) ∙ ap (λ s. contains_key s c.args.key.now) c.self.view_is
