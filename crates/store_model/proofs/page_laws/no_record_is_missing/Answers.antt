use Rattle.store_model.proofs.ReadLemmas.{none_is_missing}
use Rattle.store_model.proofs.page_laws.no_record_is_missing.Goals as goal

pub returns : goal.returns
returns c = λ logs s page links stamp missing are told history whole. none_is_missing logs s page links are told history whole stamp missing
