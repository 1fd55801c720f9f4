use Rattle.lock_model.proofs.WriterRuns.{rosters_are_whole}
use Rattle.lock_model.proofs.laws.rosters_are_whole.Goals as goal

pub returns : goal.returns
returns c = rosters_are_whole
