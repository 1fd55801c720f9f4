use Rattle.replica_laws.proofs.LifeLemmas.{points_stay}
use Rattle.replica_laws.proofs.laws.points_stay.Goals as goal

pub returns : goal.returns
returns c = points_stay
