use Rattle.tree_laws.proofs.OtherTables.{other_stays}
use Rattle.tree_laws.proofs.other_tables_stay.Goals as goal

pub returns : goal.returns
returns c = other_stays
