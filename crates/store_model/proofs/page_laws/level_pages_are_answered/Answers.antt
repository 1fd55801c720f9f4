use Rattle.store_model.proofs.ReadLemmas.{level_read}
use Rattle.store_model.proofs.page_laws.level_pages_are_answered.Goals as goal

pub returns : goal.returns
returns c = λ logs s page links stamp are told history whole. level_read logs s page links are told history whole stamp
