use Rattle.std.proofs.Common.{rules}
use Rattle.tm_data.specs.Maps.{as_map, as_set}
use Rattle.key_model.specs.State.{session_cmp}
use Rattle.key_model.specs.Inside.{held_cmp}
use Rattle.key_model.proofs.SessionLemmas.{covers_none}
use Rattle.key_model.proofs.sessions.SessionMap.new.Goals as goal

pub invariant_of-result : goal.invariant_of-result
invariant_of-result c = covers_none (as_map {R = session_cmp} c.new.result) (as_set {R = held_cmp} c.new-2.result) (search rules)
