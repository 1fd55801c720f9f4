use Rattle.history_laws.proofs.RowLemmas.{rows_made}
use Rattle.history_laws.proofs.laws.rows_are_made_in_turn.Goals as goal

pub returns : goal.returns
returns c = rows_made
