use Rattle.store_model.proofs.ToldLemmas.{step_true}
use Rattle.store_model.proofs.log_laws.sent_messages_are_true.Goals as goal

pub returns : goal.returns
returns c = step_true
