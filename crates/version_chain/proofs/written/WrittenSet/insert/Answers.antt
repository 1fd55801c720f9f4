use Rattle.std.proofs.Common.{◌∙◌, ap}
use Rattle.std.specs.FinMap.{insert}
use Rattle.version_chain.specs.Places.{written_cmp-total, written_cmp-exact}
use Rattle.tm_data.specs.Maps.{insert-as_keys}
use Rattle.version_chain.proofs.written.WrittenSet.insert.Goals as goal

pub returns-clause-ok : goal.returns-clause-ok
returns-clause-ok c =
    insert-as_keys written_cmp-total written_cmp-exact c.self.inside.written c.insert.new.self c.args.written c.in_ok-insert.ensures.updates.0
    ∙ ap (λ s. insert s c.args.written tt) c.self.view_is
