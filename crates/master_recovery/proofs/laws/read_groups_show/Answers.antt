use Rattle.master_recovery.proofs.SeenLemmas.{scanned_shows}
use Rattle.master_recovery.proofs.laws.read_groups_show.Goals as goal

pub returns : goal.returns
returns c = scanned_shows
