use Rattle.master_model.proofs.StageLemmas.{stages_by_command, stages_by_message, stages_by_tick}
use Rattle.master_model.proofs.laws.a_recovery_says_where_it_is.Goals as goal

pub returns-clause-message : goal.returns-clause-message
returns-clause-message c = stages_by_message

pub returns-clause-command : goal.returns-clause-command
returns-clause-command c = stages_by_command

pub returns-clause-tick : goal.returns-clause-tick
returns-clause-tick c = stages_by_tick
