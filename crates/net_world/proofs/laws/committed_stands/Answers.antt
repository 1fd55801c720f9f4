use Rattle.net_world.proofs.StandLemmas.{committed_stands}
use Rattle.net_world.proofs.laws.committed_stands.Goals as goal

pub returns : goal.returns
returns c = committed_stands c.steps_are_after.ensures
