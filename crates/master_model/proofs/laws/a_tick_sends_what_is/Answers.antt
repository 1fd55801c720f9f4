use Rattle.master_model.proofs.NoteTold.{sent_by_tick, sent_at_start}
use Rattle.master_model.proofs.laws.a_tick_sends_what_is.Goals as goal

pub returns-clause-tick : goal.returns-clause-tick
returns-clause-tick c = sent_by_tick

pub returns-clause-start : goal.returns-clause-start
returns-clause-start c = sent_at_start
