use Rattle.std.proofs.Common.{ap, ◌∙◌}
use Rattle.lock_model.specs.State.{put}
use Rattle.global_locks.proofs.TableLemmas.{put_is}
use Rattle.global_locks.proofs.table.Table.put.Goals as goal

pub returns-clause-ok : goal.returns-clause-ok
returns-clause-ok g c =
    c.in-Ok.ensures.entries ∙ put_is c.self.inside.map.entries c.args.number c.args.entry ∙ ap (λ t. put t c.args.number c.args.entry) c.self.view_is
