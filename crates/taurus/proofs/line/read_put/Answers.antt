use Rattle.std.proofs.Common.{◌≡◌, ◌∙◌, ℕ, ◌<◌, ◌≤◌, ◌^◌, List, length, ◌++◌, ◌∷◌, decimal, sym, ap, subst, arith, IfNone}
use Rattle.text_fields.specs.Fields.{hex_text}
use Rattle.taurus.specs.Lines.{IsRow}
use Rattle.taurus.proofs.LineLemmas.{behind, tables_apart}
use Rattle.taurus.proofs.line.read_put.Goals as goal

pub returns-in_default-found-clause-none : goal.returns-in_default-found-clause-none
returns-in_default-found-clause-none c = λ table key value fit is.
    let row : List ℕ = hex_text key ++ 32 ∷ hex_text value in
    let fields = behind c.as_slice.result.now c.args.line.now c.in-Some.fields.now (decimal table ++ 32 ∷ row) c.in-Some.ensures.cases.1 (is ∙ ap (λ p. p ++ (decimal table ++ 32 ∷ row)) (sym c.as_slice.ensures)) in
    let parts = tables_apart c.in-Some-read_table.table table c.in-Some-read_table.fields.now row c.in-Some-read_table.ensures.some.1 fit.0 (sym c.in-Some-read_table.ensures.some.0 ∙ fields) in
    let refused = subst (λ found. IfNone found ((key value : List ℕ) → IsRow key value → c.in-Some-read_table.fields.now ≡ hex_text key ++ 32 ∷ hex_text value → ⊥)) c.in_default-found.is c.in_ok-found.ensures.none in
    refused key value fit.1 parts.1
