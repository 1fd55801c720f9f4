use Rattle.master_model.proofs.StepFacts.{asked_goes}
use Rattle.master_model.proofs.laws.a_command_goes.Goals as goal

pub returns : goal.returns
returns c = asked_goes
