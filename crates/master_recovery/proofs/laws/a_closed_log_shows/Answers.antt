use Rattle.master_recovery.proofs.SeenLemmas.{closed_shows}
use Rattle.master_recovery.proofs.laws.a_closed_log_shows.Goals as goal

pub returns : goal.returns
returns c = closed_shows
