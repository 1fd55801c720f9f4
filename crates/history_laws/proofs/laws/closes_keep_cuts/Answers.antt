use Rattle.history_laws.proofs.CloseCuts.{close_cuts}
use Rattle.history_laws.proofs.laws.closes_keep_cuts.Goals as goal

pub returns : goal.returns
returns c = close_cuts
