use Rattle.std.proofs.Common.{◌∙◌, ap}
use Rattle.master_life.specs.SeenLife.{SeenLife}
use Rattle.master_life.specs.Moves as move
use Rattle.master_life.proofs.MoveLemmas.{groups_are}
use Rattle.master_life.proofs.calls.on_groups.Goals as goal

pub returns-clause-ok : goal.returns-clause-ok
returns-clause-ok c l is = c.in_ok-messages.ensures.ok ∙ ap (λ (v : SeenLife). move.on_groups v c.args.writer.0 c.args.groups.now) is ∙ groups_are l c.args.writer.0 c.args.groups.now
