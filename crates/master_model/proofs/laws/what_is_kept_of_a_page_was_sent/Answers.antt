use Rattle.master_model.proofs.KeptLemmas.{left_was_kept, left_was_sent}
use Rattle.master_model.proofs.laws.what_is_kept_of_a_page_was_sent.Goals as goal

pub returns-clause-message : goal.returns-clause-message
returns-clause-message c = left_was_sent

pub returns-clause-command : goal.returns-clause-command
returns-clause-command c = left_was_kept
