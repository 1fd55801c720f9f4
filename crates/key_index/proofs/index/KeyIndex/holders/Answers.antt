use Rattle.std.proofs.Common.{sym, ◌∙◌, ap}
use Rattle.std.specs.FinMap.{get}
use Rattle.tm_data.specs.Orders.{row_cmp-total}
use Rattle.tm_data.specs.Maps.{get-as_map}
use Rattle.key_index.proofs.index.KeyIndex.holders.Goals as goal

pub returns : goal.returns
returns c = c.get.ensures.value ∙ sym (get-as_map row_cmp-total c.self.inside.rows c.args.key.now) ∙ ap (λ m. get m c.args.key.now) c.self.view_is
