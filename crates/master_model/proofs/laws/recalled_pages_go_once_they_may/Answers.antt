use Rattle.master_model.proofs.RestLemmas.{command_rests, message_rests}
use Rattle.master_model.proofs.laws.recalled_pages_go_once_they_may.Goals as goal

pub returns-clause-start : goal.returns-clause-start
returns-clause-start c number boot stores = tt

pub returns-clause-message : goal.returns-clause-message
returns-clause-message c = message_rests

pub returns-clause-command : goal.returns-clause-command
returns-clause-command c = command_rests
