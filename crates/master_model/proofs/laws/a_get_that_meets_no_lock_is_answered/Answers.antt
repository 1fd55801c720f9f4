use Rattle.master_model.proofs.DoneLemmas.{get_is_done}
use Rattle.master_model.proofs.laws.a_get_that_meets_no_lock_is_answered.Goals as goal

pub returns : goal.returns
returns c = get_is_done
