use Rattle.world_laws.proofs.BeginLemmas.{stopped_holds}
use Rattle.world_laws.proofs.begin.it_holds_of_a_stopped_world.Goals as goal

pub returns : goal.returns
returns c = stopped_holds c.facts_hold_at_the_start.ensures c.a_start_is_of_the_logs.ensures
