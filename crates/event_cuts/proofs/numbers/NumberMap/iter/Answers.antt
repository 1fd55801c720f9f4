use Rattle.std.proofs.Common.{sym, ◌∙◌, ap}
use Rattle.std.specs.FinMap.{entries}
use Rattle.tm_data.specs.Orders.{writer_cmp-total}
use Rattle.tm_data.specs.Maps.{entries-as_map}
use Rattle.event_cuts.proofs.numbers.NumberMap.iter.Goals as goal

pub returns-clause-rest : goal.returns-clause-rest
returns-clause-rest c = c.iter.ensures.rest ∙ sym (entries-as_map writer_cmp-total c.self.inside.numbers c.iter.ensures.ordered) ∙ ap entries c.self.view_is
