use Rattle.lock_model.proofs.PageRuns.{vector_rises}
use Rattle.lock_model.proofs.laws.vector_rises.Goals as goal

pub returns : goal.returns
returns c = vector_rises
