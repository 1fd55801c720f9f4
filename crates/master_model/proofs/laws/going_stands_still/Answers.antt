use Rattle.master_model.proofs.StepGoes.{goes_nowhere}
use Rattle.master_model.proofs.laws.going_stands_still.Goals as goal

pub returns : goal.returns
returns c = goes_nowhere
