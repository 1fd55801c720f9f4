use Rattle.history_laws.proofs.BlockLemmas.{value_of_last}
use Rattle.history_laws.proofs.laws.a_value_is_of_the_last_ended_run.Goals as goal

pub returns : goal.returns
returns c = value_of_last
