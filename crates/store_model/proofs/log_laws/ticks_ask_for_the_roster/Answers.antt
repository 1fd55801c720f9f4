use Rattle.store_model.proofs.ToldLemmas.{tick_told}
use Rattle.store_model.proofs.log_laws.ticks_ask_for_the_roster.Goals as goal

pub returns : goal.returns
returns c = tick_told
