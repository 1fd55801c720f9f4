-- a_table_from_the_root_is_a_map/Answers.antt
use Rattle.tree_laws.proofs.ReachLaw.{map_reached}
use Rattle.tree_laws.proofs.a_table_from_the_root_is_a_map.Goals as goal

pub returns : goal.returns
returns c = map_reached
