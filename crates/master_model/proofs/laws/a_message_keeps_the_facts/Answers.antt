use Rattle.master_model.proofs.StepFacts.{facts_step}
use Rattle.master_model.proofs.laws.a_message_keeps_the_facts.Goals as goal

pub returns : goal.returns
returns c = facts_step
