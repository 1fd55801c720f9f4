use Rattle.world_laws.proofs.RunLemmas.{always}
use Rattle.world_laws.proofs.runs.it_always_holds.Goals as goal

pub returns : goal.returns
returns c = always c.a_run_keeps_it.ensures c.it_holds_at_the_beginning.ensures c.it_begins_spelled.ensures
