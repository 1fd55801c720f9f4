use Rattle.lock_model.proofs.RiseLemmas.{vectors_start}
use Rattle.lock_model.proofs.laws.vectors_hold_at_the_start.Goals as goal

pub returns : goal.returns
returns c = vectors_start
