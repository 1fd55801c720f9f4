use Rattle.store_model.proofs.StateLemmas.{tick_whole}
use Rattle.store_model.proofs.page_laws.a_tick_keeps_it_whole.Goals as goal

pub returns : goal.returns
returns c = tick_whole
