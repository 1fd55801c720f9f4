use Rattle.store_model.proofs.ToldLemmas.{tick_true}
use Rattle.store_model.proofs.log_laws.messages_of_ticks_are_true.Goals as goal

pub returns : goal.returns
returns c = tick_true
