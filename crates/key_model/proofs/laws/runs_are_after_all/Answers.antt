use Rattle.key_model.proofs.StepLemmas.{run_to, run_from}
use Rattle.key_model.proofs.laws.runs_are_after_all.Goals as goal

pub returns : goal.returns
returns c = λ old steps new. (run_to old steps new, run_from old steps new)
