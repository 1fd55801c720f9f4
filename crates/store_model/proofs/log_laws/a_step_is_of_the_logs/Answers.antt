use Rattle.store_model.proofs.StartLemmas.{step_of}
use Rattle.store_model.proofs.log_laws.a_step_is_of_the_logs.Goals as goal

pub returns : goal.returns
returns c = step_of
