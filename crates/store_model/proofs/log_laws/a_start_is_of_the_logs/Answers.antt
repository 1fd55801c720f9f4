use Rattle.store_model.proofs.StartLemmas.{start_of}
use Rattle.store_model.proofs.log_laws.a_start_is_of_the_logs.Goals as goal

pub returns : goal.returns
returns c = start_of
