use Rattle.std.proofs.Common.{sym, ◌∙◌, ap}
use Rattle.std.specs.FinMap.{get}
use Rattle.tm_data.specs.Orders.{writer_cmp-total}
use Rattle.tm_data.specs.Maps.{get-as_map}
use Rattle.event_cuts.proofs.numbers.NumberMap.get.Goals as goal

pub returns : goal.returns
returns c = c.get.ensures.value ∙ sym (get-as_map writer_cmp-total c.self.inside.numbers c.args.writer.now) ∙ ap (λ m. get m c.args.writer.now) c.self.view_is
