use Rattle.store_model.proofs.StartLemmas.{start_same}
use Rattle.store_model.proofs.log_laws.a_start_has_the_lists.Goals as goal

pub returns : goal.returns
returns c = start_same
