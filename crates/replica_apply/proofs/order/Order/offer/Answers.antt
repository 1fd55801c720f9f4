use Rattle.std.proofs.Common.{sym, subst}
use Rattle.std.proofs.lemmas.Result.{on_ok_weaker, on_err_weaker}
use Rattle.std.specs.FinMap.{entries}
use Rattle.replica_model.specs.Order.{Lines}
use Rattle.replica_apply.specs.Inside.{AreOwn}
use Rattle.replica_apply.proofs.OwnLemmas.{at_least, either, received_own}
use Rattle.replica_apply.proofs.order.Order.offer.Goals as goal

pub invariant_of-self : goal.invariant_of-self
invariant_of-self c =
    either c.receive.result (AreOwn (entries c.receive.new.self))
    (on_ok_weaker c.receive.result (λ is. subst (λ (m : Lines). AreOwn (entries m)) (sym is)
    (received_own c.self.inside.lanes c.args.group.now (at_least c.args.group.now.writer.0 c.if-group-eq0.false) (at_least c.args.group.now.stamp.0 c.if-group-eq0-2.false) c.self.invariant)) c.receive.ensures.ok)
    (on_err_weaker c.receive.result (λ is. subst (λ (m : Lines). AreOwn (entries m)) (sym is) c.self.invariant) c.receive.ensures.err)
