use Rattle.replica_laws.proofs.AliveLemmas.{points_are_cuts}
use Rattle.replica_laws.proofs.laws.points_are_closed_cuts.Goals as goal

pub returns : goal.returns
returns c = points_are_cuts c.vector_cuts_are_closed.ensures
