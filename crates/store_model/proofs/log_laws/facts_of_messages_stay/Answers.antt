use Rattle.store_model.proofs.ToldLemmas.{message_stays}
use Rattle.store_model.proofs.log_laws.facts_of_messages_stay.Goals as goal

pub returns : goal.returns
returns c = message_stays
