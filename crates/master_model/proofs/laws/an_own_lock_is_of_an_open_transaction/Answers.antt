use Rattle.master_model.proofs.BegunLemmas.{own_tag_open}
use Rattle.master_model.proofs.laws.an_own_lock_is_of_an_open_transaction.Goals as goal

pub returns : goal.returns
returns c = own_tag_open
