use Rattle.history_laws.proofs.WholeLemmas.{vector_whole}
use Rattle.history_laws.proofs.laws.vector_cuts_are_whole_for_pages.Goals as goal

pub returns : goal.returns
returns c = vector_whole
