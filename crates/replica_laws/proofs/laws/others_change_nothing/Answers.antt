use Rattle.replica_laws.proofs.RepeatLemmas.{others, repeats}
use Rattle.replica_laws.proofs.laws.others_change_nothing.Goals as goal

pub returns-clause-others : goal.returns-clause-others
returns-clause-others c = others

pub returns-clause-repeats : goal.returns-clause-repeats
returns-clause-repeats c = repeats
