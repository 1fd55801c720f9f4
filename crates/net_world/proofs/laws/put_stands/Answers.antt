use Rattle.net_world.proofs.PutLemmas.{put_stands}
use Rattle.net_world.proofs.laws.put_stands.Goals as goal

pub returns : goal.returns
returns c = put_stands c.steps_are_after.ensures
