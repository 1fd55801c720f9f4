use Rattle.tree_laws.proofs.LogLaws.{log_reached}
use Rattle.tree_laws.proofs.logs.a_log_sets_what_is_reached.Goals as goal

pub returns : goal.returns
returns c = log_reached
