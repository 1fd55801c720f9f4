use Rattle.master_model.proofs.SaidLemmas.{fact_stays}
use Rattle.master_model.proofs.laws.what_messages_say_stays.Goals as goal

pub returns : goal.returns
returns c = fact_stays
