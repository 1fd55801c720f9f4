use Rattle.store_model.proofs.ToldLemmas.{step_told}
use Rattle.store_model.proofs.log_laws.sent_messages_say_what_is.Goals as goal

pub returns : goal.returns
returns c = step_told
