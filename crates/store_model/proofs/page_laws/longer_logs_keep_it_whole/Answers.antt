use Rattle.store_model.proofs.StateLemmas.{longer_whole}
use Rattle.store_model.proofs.page_laws.longer_logs_keep_it_whole.Goals as goal

pub returns : goal.returns
returns c = longer_whole
