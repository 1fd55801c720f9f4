use Rattle.std.proofs.Common.{◌≡◌, sym, ◌∙◌, arith}
use Rattle.std.proofs.lemmas.Fmt.{decimal_injective}
use Rattle.text_fields.proofs.decimal_field.read_u64.Goals as goal

pub returns-then-number-least-clause-none : goal.returns-then-number-least-clause-none
returns-then-number-least-clause-none c = λ n low high is.
    let same : n ≡ c.in-Some.number = decimal_injective n c.in-Some.number (omega arith) (omega arith) (sym is ∙ c.in-Some.ensures.some) in
    absurd (omega arith)
