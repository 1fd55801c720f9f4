use Rattle.key_model.proofs.StepLemmas.{step_to, step_from}
use Rattle.key_model.proofs.laws.steps_are_after.Goals as goal

pub returns : goal.returns
returns c = λ old step new. (step_to old step new, step_from old step new)
