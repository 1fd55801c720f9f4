use Rattle.master_model.proofs.BecauseLemmas.{recover_because}
use Rattle.master_model.proofs.laws.a_recovery_answers_its_stage.Goals as goal

pub returns : goal.returns
returns c = recover_because
