use Rattle.format_laws.proofs.StoreLemmas.{log_reopened, log_stepped, log_ticked}
use Rattle.format_laws.proofs.stores.a_log_store_sends_what_can_be_spelled.Goals as goal

pub returns : goal.returns
returns c = record { step = log_stepped; tick = log_ticked; start = log_reopened }
