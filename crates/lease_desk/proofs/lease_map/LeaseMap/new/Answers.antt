use Rattle.lease_desk.proofs.MapLemmas.{none_fit}
use Rattle.lease_desk.proofs.lease_map.LeaseMap.new.Goals as goal

pub invariant_of-result : goal.invariant_of-result
invariant_of-result c = none_fit c.new.result.entries c.new.ensures.empty
