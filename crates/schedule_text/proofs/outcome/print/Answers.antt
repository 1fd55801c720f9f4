use Rattle.std.proofs.Common.{◌∙◌, ap, sym}
use Rattle.std.proofs.lemmas.Result.{IfOk-weaker}
use Rattle.schedule_text.specs.Outcomes.{outcome_text}
use Rattle.schedule_text.proofs.outcome.print.Goals as goal

pub returns-in-RosterBehind : goal.returns-in-RosterBehind
returns-in-RosterBehind c =
    IfOk-weaker c.format-in-RosterBehind.result _ _ (λ s h. h ∙ ap outcome_text (sym c.in-RosterBehind.is)) c.format-in-RosterBehind.ensures.ok

pub returns-in-FullPoints : goal.returns-in-FullPoints
returns-in-FullPoints c = IfOk-weaker c.format-in-FullPoints.result _ _ (λ s h. h ∙ ap outcome_text (sym c.in-FullPoints.is)) c.format-in-FullPoints.ensures.ok

pub returns-in-TooLongKey : goal.returns-in-TooLongKey
returns-in-TooLongKey c = IfOk-weaker c.format-in-TooLongKey.result _ _ (λ s h. h ∙ ap outcome_text (sym c.in-TooLongKey.is)) c.format-in-TooLongKey.ensures.ok
