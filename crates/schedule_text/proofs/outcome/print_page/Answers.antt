use Rattle.std.proofs.Common.{ap, ◌∙◌, ◌++◌, codes, List, ℕ}
use Rattle.std.proofs.lemmas.Result.{IfOk-weaker}
use Rattle.tm_base.specs.declared.message.Node.TheVariants.{PageStore}
use Rattle.text_fields.specs.Fields.{hex_text}
use Rattle.schedule_lines.specs.Lines.{node_text}
use Rattle.schedule_text.proofs.outcome.print_page.Goals as goal

pub returns : goal.returns
returns c =
    IfOk-weaker c.format.result _ _ (λ s h. h ∙ ap (λ (t : List ℕ). node_text (PageStore c.args.store) ++ (codes " Page " ++ t))
    (c.in_ok-bytes.ensures ∙ ap hex_text (c.as_slice.ensures ∙ c.in-Ok.ensures.spelling))) c.format.ensures.ok
