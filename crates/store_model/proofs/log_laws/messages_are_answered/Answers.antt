use Rattle.store_model.proofs.ToldLemmas.{step_answered}
use Rattle.store_model.proofs.log_laws.messages_are_answered.Goals as goal

pub returns : goal.returns
returns c = step_answered
