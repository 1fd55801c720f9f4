use Rattle.std.proofs.Common.{◌∙◌, ap}
use Rattle.master_life.specs.SeenLife.{SeenLife}
use Rattle.master_life.specs.Moves as move
use Rattle.master_life.proofs.MoveLemmas.{taken_is}
use Rattle.master_life.proofs.calls.on_taken.Goals as goal

pub returns-clause-ok : goal.returns-clause-ok
returns-clause-ok c l is = c.in_ok-messages.ensures.ok ∙ ap (λ (v : SeenLife). move.on_taken v c.args.writer.0 c.args.part) is ∙ taken_is l c.args.writer.0 c.args.part
