use Rattle.master_recovery.proofs.LawLemmas.{to_undo_ascends}
use Rattle.master_recovery.proofs.laws.rows_to_undo_ascend.Goals as goal

pub returns : goal.returns
returns c = to_undo_ascends
