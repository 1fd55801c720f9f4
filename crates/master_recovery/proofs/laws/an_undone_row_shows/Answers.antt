use Rattle.master_recovery.proofs.SeenLemmas.{left_shows, undone_shows}
use Rattle.master_recovery.proofs.laws.an_undone_row_shows.Goals as goal

pub returns-clause-rows : goal.returns-clause-rows
returns-clause-rows c = left_shows

pub returns-clause-left : goal.returns-clause-left
returns-clause-left c = undone_shows
