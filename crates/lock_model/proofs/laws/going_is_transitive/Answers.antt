use Rattle.lock_model.proofs.GoesLemmas.{goes_both}
use Rattle.lock_model.proofs.laws.going_is_transitive.Goals as goal

pub returns : goal.returns
returns c = goes_both
