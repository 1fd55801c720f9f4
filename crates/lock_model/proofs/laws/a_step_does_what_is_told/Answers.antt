use Rattle.lock_model.proofs.FactLemmas.{step_after}
use Rattle.lock_model.proofs.laws.a_step_does_what_is_told.Goals as goal

pub returns : goal.returns
returns c = step_after
