use Rattle.lock_model.proofs.WriterRuns.{end_stays}
use Rattle.lock_model.proofs.laws.end_stays.Goals as goal

pub returns : goal.returns
returns c = end_stays
