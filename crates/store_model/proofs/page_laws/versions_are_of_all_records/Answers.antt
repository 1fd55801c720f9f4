use Rattle.store_model.proofs.ReadLemmas.{version_all}
use Rattle.store_model.proofs.page_laws.versions_are_of_all_records.Goals as goal

pub returns : goal.returns
returns c = version_all
