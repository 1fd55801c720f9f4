use Rattle.master_model.proofs.EpochLemmas.{epoch_of_command, epoch_of_message}
use Rattle.master_model.proofs.laws.epochs_come_with_pages.Goals as goal

pub returns-clause-message : goal.returns-clause-message
returns-clause-message c = epoch_of_message

pub returns-clause-command : goal.returns-clause-command
returns-clause-command c = epoch_of_command
