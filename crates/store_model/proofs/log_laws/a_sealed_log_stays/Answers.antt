use Rattle.store_model.proofs.LogLemmas.{sealed_stays}
use Rattle.store_model.proofs.log_laws.a_sealed_log_stays.Goals as goal

pub returns : goal.returns
returns c = sealed_stays
