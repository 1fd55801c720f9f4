use Rattle.std.proofs.Common.{refl}
use Rattle.std.proofs.lemmas.Result.{IfOk-weaker}
use Rattle.taurus.proofs.PerformLemmas.{does_some}
use Rattle.taurus.proofs.execute.execute.Goals as goal

pub returns-clause-ok : goal.returns-clause-ok
returns-clause-ok c = IfOk-weaker c.execute_step.result _ _ (λ text h. does_some _ c.in-Some.world _ _ c.execute_step.new.world _ c.in-Some.is refl h) c.execute_step.ensures.ok
