use Rattle.store_model.proofs.LogLemmas.{step_goes}
use Rattle.store_model.proofs.log_laws.a_step_goes.Goals as goal

pub returns : goal.returns
returns c = step_goes
