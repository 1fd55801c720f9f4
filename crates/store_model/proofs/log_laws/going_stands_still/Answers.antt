use Rattle.store_model.proofs.LogLemmas.{stays}
use Rattle.store_model.proofs.log_laws.going_stands_still.Goals as goal

pub returns : goal.returns
returns c = stays
