use Rattle.master_model.proofs.OpenEndLemmas.{open_unsettled}
use Rattle.master_model.proofs.laws.an_open_transaction_has_no_durable_end.Goals as goal

pub returns : goal.returns
returns c = open_unsettled
