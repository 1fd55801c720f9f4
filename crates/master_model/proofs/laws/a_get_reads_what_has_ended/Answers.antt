use Rattle.master_model.proofs.ReplyLemmas.{get_reads}
use Rattle.master_model.proofs.laws.a_get_reads_what_has_ended.Goals as goal

pub returns : goal.returns
returns c = get_reads
