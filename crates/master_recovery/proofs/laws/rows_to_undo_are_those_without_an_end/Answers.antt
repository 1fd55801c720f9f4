use Rattle.master_recovery.proofs.LawLemmas.{to_undo_is}
use Rattle.master_recovery.proofs.laws.rows_to_undo_are_those_without_an_end.Goals as goal

pub returns : goal.returns
returns c = to_undo_is
