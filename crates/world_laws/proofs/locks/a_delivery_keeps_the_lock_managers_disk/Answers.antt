use Rattle.world_laws.proofs.LockLemmas.{lock_delivery_runs}
use Rattle.world_laws.proofs.locks.a_delivery_keeps_the_lock_managers_disk.Goals as goal

pub returns : goal.returns
returns c = lock_delivery_runs c.tells_change.ensures
