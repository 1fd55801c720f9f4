use Rattle.world_laws.proofs.RunLemmas.{never_falls}
use Rattle.world_laws.proofs.runs.what_stands_never_falls.Goals as goal

pub returns : goal.returns
returns c = never_falls c.a_run_keeps_it.ensures
