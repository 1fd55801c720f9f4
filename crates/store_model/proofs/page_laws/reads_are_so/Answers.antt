use Rattle.store_model.proofs.ReadLemmas.{read_is}
use Rattle.store_model.proofs.page_laws.reads_are_so.Goals as goal

pub returns : goal.returns
returns c = λ logs s page links stamp are told history whole. read_is logs s page links are told history whole stamp
