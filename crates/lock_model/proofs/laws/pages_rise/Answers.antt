use Rattle.lock_model.proofs.RiseLemmas.{step_rises}
use Rattle.lock_model.proofs.laws.pages_rise.Goals as goal

pub returns : goal.returns
returns c = step_rises
