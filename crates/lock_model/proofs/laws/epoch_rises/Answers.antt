use Rattle.lock_model.proofs.PageRuns.{epoch_rises}
use Rattle.lock_model.proofs.laws.epoch_rises.Goals as goal

pub returns : goal.returns
returns c = epoch_rises
