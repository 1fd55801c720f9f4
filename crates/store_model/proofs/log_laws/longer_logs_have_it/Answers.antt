use Rattle.store_model.proofs.StartLemmas.{longer_of}
use Rattle.store_model.proofs.log_laws.longer_logs_have_it.Goals as goal

pub returns : goal.returns
returns c = longer_of
