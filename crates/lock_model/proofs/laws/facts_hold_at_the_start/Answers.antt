use Rattle.lock_model.proofs.FactLemmas.{facts_start}
use Rattle.lock_model.proofs.laws.facts_hold_at_the_start.Goals as goal

pub returns : goal.returns
returns c = facts_start
