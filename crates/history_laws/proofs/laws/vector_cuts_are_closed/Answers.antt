use Rattle.history_laws.proofs.ClosedLemmas.{vector_closed}
use Rattle.history_laws.proofs.laws.vector_cuts_are_closed.Goals as goal

pub returns : goal.returns
returns c = vector_closed
