use Rattle.std.proofs.lemmas.Result.{IfOk-weaker}
use Rattle.key_model.proofs.StepLemmas.{took}
use Rattle.key_model.proofs.machine.Machine.step.Goals as goal

pub returns-clause-took : goal.returns-clause-took
returns-clause-took c = IfOk-weaker c.take.result _ _ (λ allowed h. took c.args.self.now c.args.step.now c.take.new.self allowed h) c.take.ensures.ok
