use Rattle.version_chain.proofs.KeptLemmas.{sound_empty}
use Rattle.version_chain.proofs.chains.Chains.new.Goals as goal

pub invariant_of-result : goal.invariant_of-result
invariant_of-result c = sound_empty _ _ _ c.new.ensures c.new-2.ensures c.new-3.ensures
