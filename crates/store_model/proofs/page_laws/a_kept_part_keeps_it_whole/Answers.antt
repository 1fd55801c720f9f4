use Rattle.store_model.proofs.StateLemmas.{part_whole}
use Rattle.store_model.proofs.page_laws.a_kept_part_keeps_it_whole.Goals as goal

pub returns : goal.returns
returns c = part_whole
