use Rattle.store_model.proofs.DoneLemmas.{step_done}
use Rattle.store_model.proofs.page_laws.next_groups_are_taken.Goals as goal

pub returns : goal.returns
returns c = step_done
