use Rattle.std.proofs.Common.{◌∙◌, Some, None, cond, sym, ap}
use Rattle.std.specs.Prelude.{is_none}
use Rattle.tm_data.specs.Vectors.{joined}
use Rattle.replica_model.specs.Order.{uncovered}
use Rattle.replica_model.specs.declared.line.Line.{Line}
use Rattle.replica_apply.proofs.JoinLemmas.{ready_is}
use Rattle.replica_apply.proofs.lane.Lane.ready.Goals as goal

pub returns-in-Some : goal.returns-in-Some
returns-in-Some c =
    let g = c.in_ok-group.group.now in
    ap (λ u. cond (is_none u) (Some g) None) (sym c.in-Some.is)
    ∙ ready_is c.args.frontier.now c.args.self.now c.args.self.now.waiting g c.first_uncovered.result c.in_ok-group.ensures
    (c.first_uncovered.ensures ∙ ap (λ (l : Line). uncovered c.args.frontier.now (joined l.learnt g.learnt)) c.self.view_is)

pub returns-in-None : goal.returns-in-None
returns-in-None c =
    let g = c.in_ok-group.group.now in
    ap (λ u. cond (is_none u) (Some g) None) (sym c.in-None.is)
    ∙ ready_is c.args.frontier.now c.args.self.now c.args.self.now.waiting g c.first_uncovered.result c.in_ok-group.ensures
    (c.first_uncovered.ensures ∙ ap (λ (l : Line). uncovered c.args.frontier.now (joined l.learnt g.learnt)) c.self.view_is)
