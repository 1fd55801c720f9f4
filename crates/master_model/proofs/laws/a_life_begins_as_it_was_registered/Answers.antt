use Rattle.master_model.proofs.EpochLemmas.{life_begins, no_life_begins, writer_after_command, writer_after_message}
use Rattle.master_model.proofs.laws.a_life_begins_as_it_was_registered.Goals as goal

pub returns-clause-begins : goal.returns-clause-begins
returns-clause-begins c = life_begins

pub returns-clause-waits : goal.returns-clause-waits
returns-clause-waits c = no_life_begins

pub returns-clause-message : goal.returns-clause-message
returns-clause-message c = writer_after_message

pub returns-clause-command : goal.returns-clause-command
returns-clause-command c = writer_after_command
