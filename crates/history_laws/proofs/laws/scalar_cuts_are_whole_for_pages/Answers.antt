use Rattle.history_laws.proofs.WholeLemmas.{scalar_whole}
use Rattle.history_laws.proofs.laws.scalar_cuts_are_whole_for_pages.Goals as goal

pub returns : goal.returns
returns c = scalar_whole
