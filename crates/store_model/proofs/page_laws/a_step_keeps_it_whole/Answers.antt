use Rattle.store_model.proofs.StateLemmas.{step_whole}
use Rattle.store_model.proofs.page_laws.a_step_keeps_it_whole.Goals as goal

pub returns : goal.returns
returns c = step_whole
