use Rattle.replica_laws.proofs.RunLemmas.{every_run}
use Rattle.replica_laws.proofs.laws.every_run_holds.Goals as goal

pub returns : goal.returns
returns c = every_run
