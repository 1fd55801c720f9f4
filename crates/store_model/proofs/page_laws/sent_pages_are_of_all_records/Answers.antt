use Rattle.store_model.proofs.ReadLemmas.{made_version}
use Rattle.store_model.proofs.page_laws.sent_pages_are_of_all_records.Goals as goal

pub returns : goal.returns
returns c = made_version
