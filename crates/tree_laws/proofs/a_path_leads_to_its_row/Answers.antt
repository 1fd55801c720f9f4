use Rattle.tree_laws.proofs.LeafOfKey.{leads}
use Rattle.tree_laws.proofs.a_path_leads_to_its_row.Goals as goal

pub returns : goal.returns
returns c = λ images table key path tiles found. leads images table key tiles path found
