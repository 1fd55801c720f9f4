use Rattle.master_model.proofs.HeardLemmas.{command_reads, message_reads}
use Rattle.master_model.proofs.laws.groups_that_are_read_are_heard.Goals as goal

pub returns-clause-start : goal.returns-clause-start
returns-clause-start c number boot stores = tt

pub returns-clause-message : goal.returns-clause-message
returns-clause-message c = message_reads

pub returns-clause-command : goal.returns-clause-command
returns-clause-command c = command_reads
