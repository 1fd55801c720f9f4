use Rattle.history_laws.proofs.VectorLemmas.{closed_by_vectors}
use Rattle.history_laws.proofs.laws.closed_is_by_full_vectors.Goals as goal

pub returns : goal.returns
returns c = closed_by_vectors
