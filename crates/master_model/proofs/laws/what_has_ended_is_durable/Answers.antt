use Rattle.master_model.proofs.EndedLemmas.{ended_durable}
use Rattle.master_model.proofs.laws.what_has_ended_is_durable.Goals as goal

pub returns : goal.returns
returns c = ended_durable
