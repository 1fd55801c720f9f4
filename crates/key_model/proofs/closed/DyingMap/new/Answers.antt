use Rattle.std.proofs.Common.{rules}
use Rattle.tm_data.specs.Maps.{as_map}
use Rattle.key_model.specs.State.{dying_cmp}
use Rattle.key_model.proofs.OwnedLemmas.{covers_none}
use Rattle.key_model.proofs.closed.DyingMap.new.Goals as goal

pub invariant_of-result : goal.invariant_of-result
invariant_of-result c = covers_none (as_map {R = dying_cmp} c.new.result) c.new-2.result (search rules)
