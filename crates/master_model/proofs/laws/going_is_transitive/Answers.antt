use Rattle.master_model.proofs.StepGoes.{goes_both}
use Rattle.master_model.proofs.laws.going_is_transitive.Goals as goal

pub returns : goal.returns
returns c = goes_both
