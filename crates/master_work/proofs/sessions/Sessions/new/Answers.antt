use Rattle.master_work.proofs.SessionLemmas.{nothing_indexed}
use Rattle.master_work.proofs.sessions.Sessions.new.Goals as goal

pub invariant_of-result : goal.invariant_of-result
invariant_of-result c = nothing_indexed c.new.result.map c.new-2.result.map c.new.ensures c.new-2.ensures
