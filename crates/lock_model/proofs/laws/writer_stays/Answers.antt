use Rattle.lock_model.proofs.WriterRuns.{writer_stays}
use Rattle.lock_model.proofs.laws.writer_stays.Goals as goal

pub returns : goal.returns
returns c = writer_stays
