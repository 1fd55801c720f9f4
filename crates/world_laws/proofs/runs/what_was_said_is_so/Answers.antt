use Rattle.world_laws.specs.Runs.{AllTell}
use Rattle.world_laws.proofs.RunLemmas.{all_tell, so_always}
use Rattle.world_laws.proofs.runs.what_was_said_is_so.Goals as goal

pub returns : goal.returns
returns c = so_always AllTell all_tell c.it_always_holds.ensures
