use Rattle.std.proofs.Common.{◌∙◌, ap}
use Rattle.std.specs.FinSet.{insert}
use Rattle.tm_data.specs.Orders.{writer_cmp-total, writer_cmp-exact}
use Rattle.tm_data.specs.Maps.{insert-as_set}
use Rattle.key_index.proofs.writers.WriterSet.insert.Goals as goal

pub returns-clause-ok : goal.returns-clause-ok
returns-clause-ok c =
    insert-as_set writer_cmp-total writer_cmp-exact c.self.inside.writers c.insert.new.self c.args.writer c.in_ok-insert.ensures.updates.0
    ∙ ap (λ s. insert s c.args.writer) c.self.view_is
