use Rattle.store_model.proofs.LogLemmas.{start_facts}
use Rattle.store_model.proofs.log_laws.facts_hold_at_the_start.Goals as goal

pub returns : goal.returns
returns c = start_facts
