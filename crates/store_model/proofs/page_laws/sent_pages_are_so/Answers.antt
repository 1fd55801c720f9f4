use Rattle.store_model.proofs.ReadLemmas.{page_step_told}
use Rattle.store_model.proofs.page_laws.sent_pages_are_so.Goals as goal

pub returns : goal.returns
returns c = page_step_told
