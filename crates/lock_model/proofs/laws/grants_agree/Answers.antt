use Rattle.lock_model.proofs.PageRuns.{all_grants_agree}
use Rattle.lock_model.proofs.laws.grants_agree.Goals as goal

pub returns : goal.returns
returns c = all_grants_agree
