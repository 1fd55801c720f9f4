use Rattle.store_model.proofs.StartLemmas.{kept_of}
use Rattle.store_model.proofs.log_laws.kept_messages_are_of_the_logs.Goals as goal

pub returns : goal.returns
returns c = kept_of
