use Rattle.store_model.proofs.LogLemmas.{goes_on}
use Rattle.store_model.proofs.log_laws.going_is_transitive.Goals as goal

pub returns : goal.returns
returns c = goes_on
