use Rattle.lock_model.proofs.PageRuns.{one_holder}
use Rattle.lock_model.proofs.laws.one_holder.Goals as goal

pub returns : goal.returns
returns c = one_holder
