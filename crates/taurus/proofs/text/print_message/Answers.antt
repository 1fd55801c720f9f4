use Rattle.std.proofs.Common.{◌≡◌, ap, sym, ◌∙◌, ◌++◌, codes, decimal, List, ℕ}
use Rattle.std.proofs.lemmas.Result.{IfOk-weaker}
use Rattle.taurus.specs.Text.{message_text}
use Rattle.taurus.proofs.text.print_message.Goals as goal

pub returns-in_ok-group-in-Append : goal.returns-in_ok-group-in-Append
returns-in_ok-group-in-Append c =
    IfOk-weaker c.format.result _ _ (λ s h. h ∙ ap (λ (g : List ℕ). codes "#" ++ (decimal c.args.number ++ (codes " m1>l1 Append " ++ g))) c.in_ok-group-in-Append.ensures ∙ ap (message_text c.args.number) (sym c.in-Append.is)) c.format.ensures.ok
