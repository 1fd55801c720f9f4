use Rattle.store_model.proofs.StartLemmas.{step_kept}
use Rattle.store_model.proofs.log_laws.a_step_is_kept.Goals as goal

pub returns : goal.returns
returns c = step_kept
