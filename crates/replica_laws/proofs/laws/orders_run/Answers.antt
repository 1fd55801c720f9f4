use Rattle.replica_laws.proofs.LifeLemmas.{orders_run}
use Rattle.replica_laws.proofs.laws.orders_run.Goals as goal

pub returns : goal.returns
returns c = orders_run
