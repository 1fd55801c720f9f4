use Rattle.std.proofs.Common.{◌∙◌, sym, ap, subst}
use Rattle.std.specs.FinMap.{entries}
use Rattle.std.specs.Ordering.{nat_cmp}
use Rattle.tm_data.specs.Maps.{entries-empty}
use Rattle.replica_model.specs.Order.{Lines}
use Rattle.replica_apply.specs.Inside.{AreOwn}
use Rattle.replica_apply.proofs.order.Order.new.Goals as goal

pub invariant_of-result : goal.invariant_of-result
invariant_of-result c = subst AreOwn (sym (ap (λ (m : Lines). entries m) c.new.ensures ∙ entries-empty nat_cmp)) tt
