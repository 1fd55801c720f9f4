use Rattle.vs_clock.proofs.StampLemmas.{stamps_rise}
use Rattle.vs_clock.proofs.DurableLemmas.{entries_are_durable}
use Rattle.vs_clock.proofs.CauseLemmas.{covers_its_causes}
use Rattle.vs_clock.proofs.laws.clocks_order_causes.Goals as goal

pub returns-clause-stamps : goal.returns-clause-stamps
returns-clause-stamps c = stamps_rise

pub returns-clause-durable : goal.returns-clause-durable
returns-clause-durable c = entries_are_durable

pub returns-clause-causes : goal.returns-clause-causes
returns-clause-causes c = covers_its_causes
