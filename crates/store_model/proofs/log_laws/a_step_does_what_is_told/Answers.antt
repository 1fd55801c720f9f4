use Rattle.store_model.proofs.LogLemmas.{step_after}
use Rattle.store_model.proofs.log_laws.a_step_does_what_is_told.Goals as goal

pub returns : goal.returns
returns c = step_after
