use Rattle.tree_laws.proofs.OtherTables.{others_stay}
use Rattle.tree_laws.proofs.other_tables_stay_in_turn.Goals as goal

pub returns : goal.returns
returns c = others_stay
