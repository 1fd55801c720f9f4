use Rattle.store_model.proofs.LogLemmas.{step_by}
use Rattle.store_model.proofs.log_laws.changes_have_their_causes.Goals as goal

pub returns : goal.returns
returns c = step_by
