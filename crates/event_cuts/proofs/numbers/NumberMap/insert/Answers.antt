use Rattle.std.proofs.Common.{◌∙◌, ap}
use Rattle.std.specs.FinMap.{insert}
use Rattle.tm_data.specs.Orders.{writer_cmp-total, writer_cmp-exact}
use Rattle.tm_data.specs.Maps.{insert-as_map}
use Rattle.event_cuts.proofs.numbers.NumberMap.insert.Goals as goal

pub returns : goal.returns
returns c =
    insert-as_map writer_cmp-total writer_cmp-exact c.self.inside.numbers c.insert.new.self c.args.writer c.args.number c.in-Ok.ensures.updates.0
    ∙ ap (λ m. insert m c.args.writer c.args.number) c.self.view_is
