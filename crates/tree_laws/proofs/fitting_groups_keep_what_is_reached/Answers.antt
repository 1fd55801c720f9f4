-- fitting_groups_keep_what_is_reached/Answers.antt
use Rattle.tree_laws.proofs.ReachLaw.{reached_then}
use Rattle.tree_laws.proofs.fitting_groups_keep_what_is_reached.Goals as goal

pub returns : goal.returns
returns c = λ images stamp groups table t fit. reached_then images table stamp groups t fit
