use Rattle.replica_laws.proofs.RepeatLemmas.{waits_of_least}
use Rattle.replica_laws.proofs.laws.waits_are_of_the_least.Goals as goal

pub returns : goal.returns
returns c = waits_of_least
