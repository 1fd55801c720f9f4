use Rattle.std.proofs.Common.{sym, ◌∙◌, ap}
use Rattle.std.specs.FinMap.{get}
use Rattle.tm_data.specs.Orders.{txn_cmp-total}
use Rattle.tm_data.specs.Maps.{get-as_map}
use Rattle.key_index.proofs.opened.OpenMap.get.Goals as goal

pub returns : goal.returns
returns c = c.get.ensures.value ∙ sym (get-as_map txn_cmp-total c.self.inside.opened c.args.txn.now) ∙ ap (λ m. get m c.args.txn.now) c.self.view_is
