use Rattle.history_laws.proofs.CountLemmas.{vectors_under}
use Rattle.history_laws.proofs.laws.full_vectors_are_under_bounds.Goals as goal

pub returns : goal.returns
returns c = vectors_under
