use Rattle.lock_model.proofs.ToldLemmas.{step_takes}
use Rattle.lock_model.proofs.laws.takeovers_take.Goals as goal

pub returns : goal.returns
returns c = step_takes
