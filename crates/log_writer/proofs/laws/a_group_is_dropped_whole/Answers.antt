use Rattle.log_writer.proofs.LastLemmas.{dropped_whole}
use Rattle.log_writer.proofs.laws.a_group_is_dropped_whole.Goals as goal

pub returns : goal.returns
returns c = dropped_whole
