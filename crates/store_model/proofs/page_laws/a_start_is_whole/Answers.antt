use Rattle.store_model.proofs.StateLemmas.{start_whole}
use Rattle.store_model.proofs.page_laws.a_start_is_whole.Goals as goal

pub returns : goal.returns
returns c = start_whole
