use Rattle.replica_laws.proofs.GoesLemmas.{orders_go_on}
use Rattle.replica_laws.proofs.laws.orders_go_on.Goals as goal

pub returns : goal.returns
returns c = orders_go_on
