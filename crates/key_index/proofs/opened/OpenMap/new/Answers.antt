use Rattle.std.proofs.Common.{rules}
use Rattle.tm_data.specs.Orders.{txn_cmp}
use Rattle.tm_data.specs.Maps.{as_map}
use Rattle.key_index.specs.Touched.{wrote, read}
use Rattle.key_index.proofs.CoverLemmas.{covers_none}
use Rattle.key_index.proofs.opened.OpenMap.new.Goals as goal

pub invariant_of-result : goal.invariant_of-result
invariant_of-result c = (
  covers_none wrote (as_map {R = txn_cmp} c.new.result) c.new-2.result (search rules),
  covers_none read (as_map {R = txn_cmp} c.new.result) c.new-3.result (search rules),
)
