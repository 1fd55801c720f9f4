use Rattle.master_recovery.proofs.SeenLemmas.{taken_shows}
use Rattle.master_recovery.proofs.laws.a_taken_part_shows.Goals as goal

pub returns : goal.returns
returns c = taken_shows
