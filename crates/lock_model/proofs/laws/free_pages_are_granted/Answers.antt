use Rattle.lock_model.proofs.ToldLemmas.{step_grants}
use Rattle.lock_model.proofs.laws.free_pages_are_granted.Goals as goal

pub returns : goal.returns
returns c = step_grants
