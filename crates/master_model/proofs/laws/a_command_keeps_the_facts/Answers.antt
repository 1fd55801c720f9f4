use Rattle.master_model.proofs.StepFacts.{facts_command}
use Rattle.master_model.proofs.laws.a_command_keeps_the_facts.Goals as goal

pub returns : goal.returns
returns c = facts_command
