use Rattle.key_model.proofs.FoldLemmas.{map_is_fold}
use Rattle.key_model.proofs.laws.the_map_at_a_closed_cut_is_the_fold.Goals as goal

pub returns : goal.returns
returns c = map_is_fold
