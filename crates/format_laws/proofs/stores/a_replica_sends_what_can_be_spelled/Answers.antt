use Rattle.format_laws.proofs.StoreLemmas.{replica_stepped, replica_ticked}
use Rattle.format_laws.proofs.stores.a_replica_sends_what_can_be_spelled.Goals as goal

pub returns : goal.returns
returns c = record { step = replica_stepped; tick = replica_ticked }
