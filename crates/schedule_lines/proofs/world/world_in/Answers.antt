use Rattle.std.proofs.Common.{[]}
use Rattle.schedule_lines.proofs.WordLemmas.{if_none, third}
use Rattle.schedule_lines.proofs.world.world_in.Goals as goal

pub returns-in_err-replicas-clause-none : goal.returns-in_err-replicas-clause-none
returns-in_err-replicas-clause-none c =
    if_none c.from_residual-in_err-replicas.result (λ masters page_stores replicas in_masters in_stores in_replicas is.
    c.in_err-replicas.ensures.none replicas [] in_replicas (third c.in_ok-masters.ensures.some.0 c.in_ok-page_stores.ensures.some.0 is))
