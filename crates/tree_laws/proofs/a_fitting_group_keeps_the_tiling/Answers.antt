use Rattle.tree_laws.proofs.FitLemmas.{fits_tiles}
use Rattle.tree_laws.proofs.a_fitting_group_keeps_the_tiling.Goals as goal

pub returns : goal.returns
returns c = fits_tiles
