use Rattle.std.proofs.Common.{◌∙◌, nat_eq}
use Rattle.master_model.specs.Recovery.{have_end}
use Rattle.master_recovery.specs.ReadRows.{writes}
use Rattle.master_recovery.proofs.LawLemmas.{open_in, to_undo_is}
use Rattle.master_recovery.proofs.laws.every_open_row_is_undone.Goals as goal

pub returns : goal.returns
returns c = λ writer groups w own wrote ended. to_undo_is writer groups w ∙ open_in (nat_eq w.txn.writer.0 writer) (writes groups w) (have_end groups w.txn) own wrote ended
