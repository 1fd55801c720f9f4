use Rattle.store_model.proofs.LogLemmas.{one_list_each}
use Rattle.store_model.proofs.log_laws.each_log_is_one_list_without_gaps.Goals as goal

pub returns : goal.returns
returns c = one_list_each
