use Rattle.tree_laws.proofs.FitLemmas.{put_sets}
use Rattle.tree_laws.proofs.MapLemmas.{map_set}
use Rattle.page_model.specs.Tiling.{after}
use Rattle.tree_laws.proofs.a_put_sets_the_map.Goals as goal

pub returns : goal.returns
returns c = λ images stamp group table row leaf m tiles puts is. map_set images (after images group stamp) table row m (put_sets images stamp group table row leaf tiles puts) is
