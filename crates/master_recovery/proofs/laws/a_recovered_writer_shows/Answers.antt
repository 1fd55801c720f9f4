use Rattle.master_recovery.proofs.SeenLemmas.{over_shows}
use Rattle.master_recovery.proofs.laws.a_recovered_writer_shows.Goals as goal

pub returns : goal.returns
returns c = over_shows
