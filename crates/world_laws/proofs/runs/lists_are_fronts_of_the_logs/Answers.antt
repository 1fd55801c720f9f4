use Rattle.world_laws.specs.Runs.{ListsAreFronts}
use Rattle.world_laws.proofs.RunLemmas.{lists_are_fronts, so_always}
use Rattle.world_laws.proofs.runs.lists_are_fronts_of_the_logs.Goals as goal

pub returns : goal.returns
returns c = so_always ListsAreFronts lists_are_fronts c.it_always_holds.ensures
