use Rattle.store_model.proofs.StartLemmas.{same_goes}
use Rattle.store_model.proofs.log_laws.a_start_goes.Goals as goal

pub returns : goal.returns
returns c = same_goes
