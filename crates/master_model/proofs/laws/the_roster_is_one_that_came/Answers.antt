use Rattle.std.proofs.Common.{refl}
use Rattle.master_model.proofs.StageLemmas.{roster_came, roster_stays}
use Rattle.master_model.proofs.laws.the_roster_is_one_that_came.Goals as goal

pub returns-clause-start : goal.returns-clause-start
returns-clause-start c number boot stores = refl

pub returns-clause-message : goal.returns-clause-message
returns-clause-message c = roster_came

pub returns-clause-command : goal.returns-clause-command
returns-clause-command c = roster_stays
