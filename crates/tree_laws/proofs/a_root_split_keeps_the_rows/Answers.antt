use Rattle.tree_laws.proofs.FitLemmas.{root_rows}
use Rattle.tree_laws.proofs.a_root_split_keeps_the_rows.Goals as goal

pub returns : goal.returns
returns c = root_rows
