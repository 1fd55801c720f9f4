use Rattle.std.proofs.Common.{◌∙◌, sym, ap, subst}
use Rattle.std.specs.FinMap.{entries, get}
use Rattle.tm_data.specs.Vectors.{joined}
use Rattle.replica_model.specs.Order.{Lines, Order, after_next}
use Rattle.replica_apply.specs.Inside.{AreOwn, first_in, popped}
use Rattle.replica_apply.proofs.OwnLemmas.{applied_is, lines_of, next_is_first, popped_own}
use Rattle.replica_apply.proofs.WaitingLemmas.{fewer_wait}
use Rattle.replica_apply.proofs.order.Order.next.Goals as goal

pub single-requires : goal.single-requires
single-requires c =
    (next_is_first c.args.self.now c.in-Some.group.now (lines_of c.args.self.now c.self.inside.lanes c.self.inside.frontier c.self.view_is c.self.invariant) (sym c.in-Some.ensures)).writer

pub invariant_of-self-2 : goal.invariant_of-self-2
invariant_of-self-2 c =
    subst (λ (m : Lines). AreOwn (entries m)) (sym c.in_ok-group.ensures.ok) (popped_own c.self.inside.lanes c.in-Some.group.now.writer.0 c.self.invariant)

pub returns-clause-value : goal.returns-clause-value
returns-clause-value c =
    let its = next_is_first c.args.self.now c.in-Some.group.now (lines_of c.args.self.now c.self.inside.lanes c.self.inside.frontier c.self.view_is c.self.invariant) (sym c.in-Some.ensures) in
    c.in_ok-group.ensures.value
    ∙ ap (λ (o : Order). first_in (get o.lines c.in-Some.group.now.writer.0)) c.self.view_is
    ∙ its.first ∙ c.in-Some.ensures

pub returns-clause-ok : goal.returns-clause-ok
returns-clause-ok c =
    let g = c.in-Some.group.now in
    let its = next_is_first c.args.self.now g (lines_of c.args.self.now c.self.inside.lanes c.self.inside.frontier c.self.view_is c.self.invariant) (sym c.in-Some.ensures) in
    applied_is c.args.self.now g c.take.new.self c.in_ok-frontier.frontier its
    (c.in_ok-group.ensures.ok ∙ ap (λ (o : Order). popped o.lines g.writer.0 (get o.lines g.writer.0)) c.self.view_is)
    (c.in_ok-frontier.ensures.value ∙ ap (λ (o : Order). joined o.frontier c.in_ok-own.own) c.self.view_is ∙ ap (joined c.args.self.now.frontier) c.in_ok-own.ensures)
    ∙ ap (after_next c.args.self.now) c.in-Some.ensures

pub returns-clause-fewer : goal.returns-clause-fewer
returns-clause-fewer c =
    fewer_wait c.args.self.now (record { lines = c.take.new.self; frontier = c.in_ok-frontier.frontier }) c.in_ok-group.group
    (lines_of c.args.self.now c.self.inside.lanes c.self.inside.frontier c.self.view_is c.self.invariant) (returns-clause-value c) (returns-clause-ok c)
