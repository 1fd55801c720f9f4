use Rattle.std.proofs.Common.{◌≡◌, ◌∙◌, sym, subst, true, false, IfSome}
use Rattle.taurus.specs.Lines.{step_line, IsFit}
use Rattle.taurus.proofs.StepLemmas.{not_allowed}
use Rattle.taurus.proofs.execute.execute_step.Goals as goal

pub returns-then-not-allows-clause-cause : goal.returns-then-not-allows-clause-cause
returns-then-not-allows-clause-cause c =
    let so = subst (λ found. IfSome found (λ step. (c.args.line.now ≡ step_line step) × IsFit step)) c.in-Some.is c.in-Ok.ensures.some in
    not_allowed c.args.world.now c.args.line.now c.in-Some.step so.0 so.1 (sym c.allows.ensures ∙ c.if-not-allows.true)
