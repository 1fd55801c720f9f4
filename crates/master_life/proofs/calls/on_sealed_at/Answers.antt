use Rattle.std.proofs.Common.{◌∙◌, ap}
use Rattle.master_life.specs.SeenLife.{SeenLife}
use Rattle.master_life.specs.Moves as move
use Rattle.master_life.proofs.MoveLemmas.{sealed_is}
use Rattle.master_life.proofs.calls.on_sealed_at.Goals as goal

pub returns-clause-ok : goal.returns-clause-ok
returns-clause-ok c l is = c.in_ok-messages.ensures.ok ∙ ap (λ (v : SeenLife). move.on_sealed_from v c.args.writer.0 c.args.length c.args.from) is ∙ sealed_is l c.args.writer.0 c.args.length c.args.from
