use Rattle.log_writer.proofs.TakenBackLemmas.{again, back}
use Rattle.log_writer.proofs.laws.an_acknowledgement_is_taken_back_whole.Goals as goal

pub returns-clause-back : goal.returns-clause-back
returns-clause-back c = back

pub returns-clause-again : goal.returns-clause-again
returns-clause-again c = again
