use Rattle.store_model.proofs.VersionLemmas.{version_stays}
use Rattle.store_model.proofs.page_laws.a_version_stays.Goals as goal

pub returns : goal.returns
returns c = version_stays
