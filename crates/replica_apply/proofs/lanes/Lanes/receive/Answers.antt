use Rattle.std.proofs.Common.{◌<◌, ◌∙◌, None, sym, ap, subst, rules}
use Rattle.std.proofs.lemmas.Result.{on_ok_weaker, on_err_weaker}
use Rattle.std.specs.Ordering.{nat_cmp}
use Rattle.std.specs.FinMap.{get, insert}
use Rattle.tm_data.specs.Maps.{as_map}
use Rattle.replica_model.specs.declared.line.Line.{Line}
use Rattle.replica_model.specs.Order.{Lines, new_line, or_new}
use Rattle.replica_apply.specs.Inside.{received, with_waiting}
use Rattle.replica_apply.proofs.LaneLemmas.{changed, there, line_there, unchanged}
use Rattle.replica_apply.proofs.lanes.Lanes.receive.Goals as goal

pub push-requires : goal.push-requires
push-requires c =
    subst (λ (l : Line). l.next < 4294967295)
    (line_there c.self.inside.lanes c.args.self.now c.args.group.now.writer.0 c.in-Some.lane.now c.self.view_is (sym c.in-Some.ensures.value)) c.requires

pub returns-in-Some-clause-ok : goal.returns-in-Some-clause-ok
returns-in-Some-clause-ok c =
    let m = c.self.inside.lanes in
    let k = c.args.group.now.writer.0 in
    let w = c.push.new.self in
    on_ok_weaker c.push.result (λ is.
    changed m (c.get_mut.follows.lender w) k w ((c.get_mut.follows.holds w).3 (search rules)).0
    ∙ ap (insert (as_map {R = nat_cmp} m) k) (is ∙ ap (with_waiting c.in-Some.lane.now) c.in_ok-group.ensures)
    ∙ ap (λ (l : Line). received (as_map {R = nat_cmp} m) c.args.group.now l) (sym (line_there m c.args.self.now k c.in-Some.lane.now c.self.view_is (sym c.in-Some.ensures.value)))
    ∙ ap (λ (n : Lines). received n c.args.group.now (or_new (get c.args.self.now k))) c.self.view_is) c.push.ensures.ok

pub returns-in-Some-clause-err : goal.returns-in-Some-clause-err
returns-in-Some-clause-err c =
    let w = c.push.new.self in
    on_err_weaker c.push.result (λ is.
    unchanged c.self.inside.lanes (c.get_mut.follows.lender w) c.args.group.now.writer.0 c.in-Some.lane.now w (sym c.in-Some.ensures.value) (c.get_mut.follows.holds w).0 is
    ∙ c.self.view_is) c.push.ensures.err

pub returns-clause-ok : goal.returns-clause-ok
returns-clause-ok c =
    let m = c.get_mut.follows.lender-at-none in
    let g = c.args.group.now in
    let k = g.writer.0 in
    changed m c.insert.new.self k c.push-2.new.self c.in_ok-insert.ensures.updates.0
    ∙ ap (insert (as_map {R = nat_cmp} m) k)
    (c.in_ok-push.ensures.ok ∙ ap (λ (l : Line). with_waiting l c.in_ok-group.group) c.new-lane.ensures ∙ ap (with_waiting new_line) c.in_ok-group.ensures)
    ∙ ap (λ n. insert (as_map {R = nat_cmp} n) k (with_waiting new_line g)) c.get_mut.follows.holds-at-none
    ∙ ap (λ (n : Lines). insert n k (with_waiting new_line g)) c.self.view_is
    ∙ ap (received c.args.self.now g) (sym (ap or_new (there c.self.inside.lanes c.args.self.now k None c.self.view_is (sym c.in_default.ensures.value))))
