use Rattle.master_model.proofs.BegunLemmas.{begun_at_start, command_begun, message_begun}
use Rattle.master_model.proofs.laws.own_locks_are_of_begun_transactions.Goals as goal

pub returns-clause-start : goal.returns-clause-start
returns-clause-start c = begun_at_start

pub returns-clause-message : goal.returns-clause-message
returns-clause-message c = message_begun

pub returns-clause-command : goal.returns-clause-command
returns-clause-command c = command_begun
