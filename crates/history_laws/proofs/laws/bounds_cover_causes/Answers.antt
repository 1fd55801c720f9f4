use Rattle.history_laws.proofs.BoundLemmas.{covers_causes}
use Rattle.history_laws.proofs.laws.bounds_cover_causes.Goals as goal

pub returns : goal.returns
returns c = covers_causes
