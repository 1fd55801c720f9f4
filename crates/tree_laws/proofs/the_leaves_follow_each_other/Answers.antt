-- the_leaves_follow_each_other/Answers.antt
use Rattle.tree_laws.proofs.ReachLeaves.{the_leaves}
use Rattle.tree_laws.proofs.the_leaves_follow_each_other.Goals as goal

pub returns : goal.returns
returns c = the_leaves
