use Rattle.lock_model.proofs.GoesLemmas.{goes_nowhere}
use Rattle.lock_model.proofs.laws.going_stands_still.Goals as goal

pub returns : goal.returns
returns c = goes_nowhere
