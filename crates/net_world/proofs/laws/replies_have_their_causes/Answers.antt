use Rattle.net_world.proofs.CauseLemmas.{causes}
use Rattle.net_world.proofs.laws.replies_have_their_causes.Goals as goal

pub returns : goal.returns
returns c = causes c.steps_are_after.ensures
