use Rattle.std.proofs.Common.{◌≡◌, ◌∙◌, ℕ, ◌<◌, ◌≤◌, ◌^◌, List, length, ◌++◌, ◌∷◌, decimal, sym, ap, subst, arith, IfNone}
use Rattle.hex.specs.Hex.{IsBytes}
use Rattle.text_fields.specs.Fields.{hex_text}
use Rattle.taurus.proofs.LineLemmas.{behind, tables_apart}
use Rattle.taurus.proofs.line.read_get.Goals as goal

pub returns-in_default-found-clause-none : goal.returns-in_default-found-clause-none
returns-in_default-found-clause-none c = λ table key fit is.
    let fields = behind c.as_slice.result.now c.args.line.now c.in-Some.fields.now (decimal table ++ 32 ∷ hex_text key) c.in-Some.ensures.cases.1 (is ∙ ap (λ p. p ++ (decimal table ++ 32 ∷ hex_text key)) (sym c.as_slice.ensures)) in
    let parts = tables_apart c.in-Some-read_table.table table c.in-Some-read_table.key.now (hex_text key) c.in-Some-read_table.ensures.some.1 fit.0 (sym c.in-Some-read_table.ensures.some.0 ∙ fields) in
    let refused = subst (λ found. IfNone found ((bytes : List ℕ) → IsBytes bytes → 1 ≤ length bytes → length bytes ≤ 1024 → c.in-Some-read_table.key.now ≡ hex_text bytes → ⊥)) c.in_default-found.is c.in_ok-found.ensures.none in
    refused key fit.1.0 fit.1.1 fit.1.2 parts.1
