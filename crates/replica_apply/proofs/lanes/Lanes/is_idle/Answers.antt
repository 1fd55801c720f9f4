use Rattle.std.proofs.Common.{sym, ◌∙◌, ap, None}
use Rattle.replica_model.specs.declared.line.Line.{Line}
use Rattle.replica_model.specs.Order.{or_new}
use Rattle.replica_model.specs.Step.{is_empty}
use Rattle.replica_apply.proofs.LaneLemmas.{line_there, there}
use Rattle.replica_apply.proofs.lanes.Lanes.is_idle.Goals as goal

pub returns-in-Some : goal.returns-in-Some
returns-in-Some c =
    c.is_idle.ensures ∙ ap (λ (l : Line). is_empty l.waiting) (sym (line_there c.self.inside.lanes c.args.self.now c.args.writer.0 c.in-Some.lane.now c.self.view_is (sym c.in-Some.ensures.value)))

pub returns-in-None : goal.returns-in-None
returns-in-None c = ap (λ o. is_empty (or_new o).waiting) (sym (there c.self.inside.lanes c.args.self.now c.args.writer.0 None c.self.view_is (sym c.in-None.ensures.value)))
