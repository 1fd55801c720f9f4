use Rattle.lock_model.proofs.PageMoves.{run_goes}
use Rattle.lock_model.proofs.laws.a_run_goes.Goals as goal

pub returns : goal.returns
returns c = run_goes
