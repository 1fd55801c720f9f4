use Rattle.replica_model.proofs.KindLemmas.{step_sent, tick_sent}
use Rattle.replica_model.proofs.laws.questions_are_sent.Goals as goal

pub returns-clause-step : goal.returns-clause-step
returns-clause-step c = step_sent

pub returns-clause-tick : goal.returns-clause-tick
returns-clause-tick c = tick_sent
