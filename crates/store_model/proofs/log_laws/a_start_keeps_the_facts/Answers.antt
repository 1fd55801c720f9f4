use Rattle.store_model.proofs.StartLemmas.{start_keeps}
use Rattle.store_model.proofs.log_laws.a_start_keeps_the_facts.Goals as goal

pub returns : goal.returns
returns c = start_keeps
