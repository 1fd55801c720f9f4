use Rattle.lock_model.proofs.WriterRuns.{writers_differ}
use Rattle.lock_model.proofs.laws.writers_differ.Goals as goal

pub returns : goal.returns
returns c = writers_differ
