use Rattle.master_model.proofs.CauseLemmas.{marks_of_command, marks_of_message}
use Rattle.master_model.proofs.laws.marks_come_from_acknowledgements.Goals as goal

pub returns-clause-message : goal.returns-clause-message
returns-clause-message c = marks_of_message

pub returns-clause-command : goal.returns-clause-command
returns-clause-command c = marks_of_command
