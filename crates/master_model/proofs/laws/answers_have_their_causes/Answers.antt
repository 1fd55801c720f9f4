use Rattle.master_model.proofs.BecauseLemmas.{answers_because}
use Rattle.master_model.proofs.laws.answers_have_their_causes.Goals as goal

pub returns : goal.returns
returns c = answers_because
