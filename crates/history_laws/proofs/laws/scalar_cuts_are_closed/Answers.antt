use Rattle.history_laws.proofs.ClosedLemmas.{scalar_closed}
use Rattle.history_laws.proofs.laws.scalar_cuts_are_closed.Goals as goal

pub returns : goal.returns
returns c = scalar_closed
