use Rattle.store_model.proofs.WholeLemmas.{pages_whole}
use Rattle.store_model.proofs.page_laws.pages_are_whole.Goals as goal

pub returns : goal.returns
returns c = pages_whole
