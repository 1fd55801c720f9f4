use Rattle.store_model.proofs.LogLemmas.{step_facts}
use Rattle.store_model.proofs.log_laws.a_step_keeps_the_facts.Goals as goal

pub returns : goal.returns
returns c = step_facts
