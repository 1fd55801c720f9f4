use Rattle.master_recovery.proofs.SeenLemmas.{sealed_shows}
use Rattle.master_recovery.proofs.laws.a_sealed_log_shows.Goals as goal

pub returns : goal.returns
returns c = sealed_shows
