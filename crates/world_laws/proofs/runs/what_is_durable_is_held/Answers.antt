use Rattle.world_laws.specs.Runs.{DurableIsHeld}
use Rattle.world_laws.proofs.RunLemmas.{held, so_always}
use Rattle.world_laws.proofs.runs.what_is_durable_is_held.Goals as goal

pub returns : goal.returns
returns c = so_always DurableIsHeld held c.it_always_holds.ensures
