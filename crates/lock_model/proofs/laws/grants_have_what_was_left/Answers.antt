use Rattle.lock_model.proofs.PageRuns.{grants_have_left}
use Rattle.lock_model.proofs.laws.grants_have_what_was_left.Goals as goal

pub returns : goal.returns
returns c = grants_have_left
