-- tiling_is_tiling_from_the_root/Answers.antt
use Rattle.tree_laws.proofs.ReachLaw.{reached_tiles}
use Rattle.tree_laws.proofs.tiling_is_tiling_from_the_root.Goals as goal

pub returns : goal.returns
returns c = reached_tiles
