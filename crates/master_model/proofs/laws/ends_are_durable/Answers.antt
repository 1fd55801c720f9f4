use Rattle.master_model.proofs.EndLemmas.{ends_are_durable}
use Rattle.master_model.proofs.EndedLemmas.{answered_ends}
use Rattle.master_model.proofs.laws.ends_are_durable.Goals as goal

pub returns-clause-of_session : goal.returns-clause-of_session
returns-clause-of_session c = ends_are_durable

pub returns-clause-in_log : goal.returns-clause-in_log
returns-clause-in_log c = answered_ends
