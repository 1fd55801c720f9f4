use Rattle.world_laws.proofs.RunLemmas.{lists_stay}
use Rattle.world_laws.proofs.runs.lists_stay.Goals as goal

pub returns : goal.returns
returns c = lists_stay c.a_run_keeps_it.ensures
