use Rattle.std.proofs.Common.{sym, ◌∙◌, ap}
use Rattle.std.specs.FinSet.{contains}
use Rattle.tm_data.specs.Orders.{writer_cmp-total}
use Rattle.tm_data.specs.Maps.{contains-as_set}
use Rattle.key_index.proofs.writers.WriterSet.contains.Goals as goal

pub returns : goal.returns
returns c = c.contains.ensures ∙ sym (contains-as_set writer_cmp-total c.self.inside.writers c.args.writer) ∙ ap (λ s. contains s c.args.writer) c.self.view_is
