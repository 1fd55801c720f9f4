use Rattle.master_model.proofs.StepFacts.{message_goes}
use Rattle.master_model.proofs.laws.a_message_goes.Goals as goal

pub returns : goal.returns
returns c = message_goes
