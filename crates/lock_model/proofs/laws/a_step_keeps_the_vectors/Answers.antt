use Rattle.lock_model.proofs.RiseLemmas.{vectors_step}
use Rattle.lock_model.proofs.laws.a_step_keeps_the_vectors.Goals as goal

pub returns : goal.returns
returns c = vectors_step
