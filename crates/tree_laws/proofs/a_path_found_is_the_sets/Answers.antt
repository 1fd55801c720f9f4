use Rattle.tree_laws.proofs.SomeImages.{path_stays}
use Rattle.tree_laws.proofs.a_path_found_is_the_sets.Goals as goal

pub returns : goal.returns
returns c = λ images part table key path is found. path_stays images part table key is path found
