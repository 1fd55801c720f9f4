use Rattle.lock_model.proofs.ChangeLemmas.{tells_change}
use Rattle.lock_model.proofs.laws.tells_change.Goals as goal

pub returns : goal.returns
returns c = tells_change
