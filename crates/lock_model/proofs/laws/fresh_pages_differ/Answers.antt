use Rattle.lock_model.proofs.WriterRuns.{fresh_pages_agree}
use Rattle.lock_model.proofs.laws.fresh_pages_differ.Goals as goal

pub returns : goal.returns
returns c = fresh_pages_agree
