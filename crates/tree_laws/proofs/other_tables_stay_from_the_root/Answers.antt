-- other_tables_stay_from_the_root/Answers.antt
use Rattle.tree_laws.proofs.ReachGroups.{others_stay_reached}
use Rattle.tree_laws.proofs.other_tables_stay_from_the_root.Goals as goal

pub returns : goal.returns
returns c = others_stay_reached
