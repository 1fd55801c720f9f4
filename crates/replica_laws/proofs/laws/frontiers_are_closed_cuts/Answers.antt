use Rattle.replica_laws.proofs.AliveLemmas.{frontiers_are_cuts}
use Rattle.replica_laws.proofs.laws.frontiers_are_closed_cuts.Goals as goal

pub returns : goal.returns
returns c = frontiers_are_cuts c.vector_cuts_are_closed.ensures
