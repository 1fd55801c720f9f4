use Rattle.master_model.proofs.LackLemmas.{resent_lacked, unacked_lacked}
use Rattle.master_model.proofs.laws.what_is_lacked_is_of_the_log.Goals as goal

pub returns-clause-unacked : goal.returns-clause-unacked
returns-clause-unacked c = unacked_lacked

pub returns-clause-resent : goal.returns-clause-resent
returns-clause-resent c = resent_lacked
