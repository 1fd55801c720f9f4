use Rattle.lock_model.proofs.FactLemmas.{step_goes}
use Rattle.lock_model.proofs.laws.a_step_goes.Goals as goal

pub returns : goal.returns
returns c = step_goes
