use Rattle.net_world.proofs.PutLemmas.{own_value}
use Rattle.net_world.proofs.laws.own_value_is_seen.Goals as goal

pub returns : goal.returns
returns c = own_value
