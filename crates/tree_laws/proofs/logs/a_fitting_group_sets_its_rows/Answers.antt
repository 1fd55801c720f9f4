use Rattle.tree_laws.proofs.LogLaws.{group_sets}
use Rattle.tree_laws.proofs.logs.a_fitting_group_sets_its_rows.Goals as goal

pub returns : goal.returns
returns c = λ images stamp group of table rows fits tiles is. group_sets images stamp group table rows tiles is of fits
