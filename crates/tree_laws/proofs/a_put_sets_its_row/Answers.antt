use Rattle.tree_laws.proofs.FitLemmas.{put_sets}
use Rattle.tree_laws.proofs.a_put_sets_its_row.Goals as goal

pub returns : goal.returns
returns c = put_sets
