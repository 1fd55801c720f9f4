use Rattle.master_model.proofs.DoneLemmas.{del_is_done, put_is_done}
use Rattle.master_model.proofs.laws.a_put_that_meets_no_lock_is_done.Goals as goal

pub returns-clause-put : goal.returns-clause-put
returns-clause-put c = put_is_done

pub returns-clause-del : goal.returns-clause-del
returns-clause-del c = del_is_done
