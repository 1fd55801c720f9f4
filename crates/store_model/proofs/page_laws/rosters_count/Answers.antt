use Rattle.store_model.proofs.DoneLemmas.{step_roster}
use Rattle.store_model.proofs.page_laws.rosters_count.Goals as goal

pub returns : goal.returns
returns c = step_roster
