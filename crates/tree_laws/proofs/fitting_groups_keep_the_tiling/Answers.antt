use Rattle.tree_laws.proofs.FitLemmas.{all_tile}
use Rattle.tree_laws.proofs.fitting_groups_keep_the_tiling.Goals as goal

pub returns : goal.returns
returns c = all_tile
