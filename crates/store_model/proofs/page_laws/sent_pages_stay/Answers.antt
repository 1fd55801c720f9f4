use Rattle.store_model.proofs.ReadLemmas.{made_more}
use Rattle.store_model.proofs.page_laws.sent_pages_stay.Goals as goal

pub returns : goal.returns
returns c = made_more
