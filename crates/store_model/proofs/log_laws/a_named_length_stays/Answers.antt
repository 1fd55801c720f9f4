use Rattle.store_model.proofs.ToldLemmas.{named_stays}
use Rattle.store_model.proofs.log_laws.a_named_length_stays.Goals as goal

pub returns : goal.returns
returns c = named_stays
