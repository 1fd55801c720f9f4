use Rattle.lock_model.proofs.WriterRuns.{gives_end}
use Rattle.lock_model.proofs.laws.first_close_gives_the_end.Goals as goal

pub returns : goal.returns
returns c = gives_end
