use Rattle.master_recovery.proofs.SeenLemmas.{told_shows}
use Rattle.master_recovery.proofs.laws.what_is_told_shows.Goals as goal

pub returns : goal.returns
returns c = told_shows
