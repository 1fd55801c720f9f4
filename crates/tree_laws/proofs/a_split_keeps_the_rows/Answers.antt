use Rattle.tree_laws.proofs.FitLemmas.{split_rows}
use Rattle.tree_laws.proofs.a_split_keeps_the_rows.Goals as goal

pub returns : goal.returns
returns c = split_rows
