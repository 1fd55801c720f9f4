use Rattle.master_model.proofs.StageLemmas.{recovery_goes, recovery_is_asked}
use Rattle.master_model.proofs.laws.recoveries_move_by_what_comes.Goals as goal

pub returns-clause-message : goal.returns-clause-message
returns-clause-message c = recovery_goes

pub returns-clause-command : goal.returns-clause-command
returns-clause-command c = recovery_is_asked
