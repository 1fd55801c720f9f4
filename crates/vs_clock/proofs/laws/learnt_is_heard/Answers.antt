use Rattle.vs_clock.proofs.LearntLemmas.{learnt_is_heard}
use Rattle.vs_clock.proofs.laws.learnt_is_heard.Goals as goal

pub returns : goal.returns
returns c = learnt_is_heard
