use Rattle.lock_model.proofs.FactLemmas.{facts_step}
use Rattle.lock_model.proofs.laws.a_step_keeps_the_facts.Goals as goal

pub returns : goal.returns
returns c = facts_step
