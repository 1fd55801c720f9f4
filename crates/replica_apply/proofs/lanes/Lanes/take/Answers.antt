use Rattle.std.proofs.Common.{◌∙◌, Some, None, sym, ap, rules}
use Rattle.std.proofs.lemmas.Result.{IfOk-weaker, on_ok_weaker, on_err_weaker}
use Rattle.std.specs.Ordering.{nat_cmp}
use Rattle.std.specs.FinMap.{insert}
use Rattle.tm_data.specs.Maps.{as_map}
use Rattle.replica_model.specs.Order.{Lines}
use Rattle.replica_apply.specs.Inside.{first_in, popped, without_next}
use Rattle.replica_apply.proofs.LaneLemmas.{changed, there, unchanged}
use Rattle.replica_apply.proofs.lanes.Lanes.take.Goals as goal

pub returns-in_default-clause-value : goal.returns-in_default-clause-value
returns-in_default-clause-value c = ap first_in (sym (there c.self.inside.lanes c.args.self.now c.args.writer.0 None c.self.view_is (sym c.in_default.ensures.value)))

pub returns-in_default-clause-ok : goal.returns-in_default-clause-ok
returns-in_default-clause-ok c =
    ap (as_map {R = nat_cmp}) c.get_mut.follows.holds-at-none ∙ c.self.view_is
    ∙ ap (popped c.args.self.now c.args.writer.0) (sym (there c.self.inside.lanes c.args.self.now c.args.writer.0 None c.self.view_is (sym c.in_default.ensures.value)))

pub returns-clause-value : goal.returns-clause-value
returns-clause-value c =
    IfOk-weaker c.pop.result _ _ (λ g is. is ∙ ap first_in (sym (there c.self.inside.lanes c.args.self.now c.args.writer.0 (Some c.in-Some.lane.now) c.self.view_is (sym c.in-Some.ensures.value)))) c.pop.ensures.value

pub returns-clause-ok : goal.returns-clause-ok
returns-clause-ok c =
    let m = c.self.inside.lanes in
    let k = c.args.writer.0 in
    let w = c.pop.new.self in
    on_ok_weaker c.pop.result (λ is.
    changed m (c.get_mut.follows.lender w) k w ((c.get_mut.follows.holds w).3 (search rules)).0
    ∙ ap (insert (as_map {R = nat_cmp} m) k) is
    ∙ ap (λ (n : Lines). insert n k (without_next c.in-Some.lane.now c.in-Some.lane.now.waiting)) c.self.view_is
    ∙ ap (popped c.args.self.now k) (sym (there m c.args.self.now k (Some c.in-Some.lane.now) c.self.view_is (sym c.in-Some.ensures.value)))) c.pop.ensures.ok

pub returns-clause-err : goal.returns-clause-err
returns-clause-err c =
    let w = c.pop.new.self in
    on_err_weaker c.pop.result (λ is.
    unchanged c.self.inside.lanes (c.get_mut.follows.lender w) c.args.writer.0 c.in-Some.lane.now w (sym c.in-Some.ensures.value) (c.get_mut.follows.holds w).0 is
    ∙ c.self.view_is) c.pop.ensures.err
