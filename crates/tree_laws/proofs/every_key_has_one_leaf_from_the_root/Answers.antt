-- every_key_has_one_leaf_from_the_root/Answers.antt
use Rattle.tree_laws.proofs.ReachLeaves.{one_leaf}
use Rattle.tree_laws.proofs.every_key_has_one_leaf_from_the_root.Goals as goal

pub returns : goal.returns
returns c = λ images table key t. one_leaf images table t key
