use Rattle.store_model.proofs.KindLemmas.{step_sent, tick_sent, wants_sent}
use Rattle.store_model.proofs.page_laws.four_kinds_are_sent.Goals as goal

pub returns-clause-step : goal.returns-clause-step
returns-clause-step c = step_sent

pub returns-clause-tick : goal.returns-clause-tick
returns-clause-tick c = tick_sent

pub returns-clause-refused : goal.returns-clause-refused
returns-clause-refused c = wants_sent
