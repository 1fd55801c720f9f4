use Rattle.version_chain.proofs.AddLemmas.{held_empty}
use Rattle.version_chain.proofs.records.Records.new.Goals as goal

pub invariant_of-result : goal.invariant_of-result
invariant_of-result c = held_empty c.new.result c.new.ensures
