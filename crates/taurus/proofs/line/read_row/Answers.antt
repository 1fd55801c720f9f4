use Rattle.std.proofs.Common.{◌≡◌, ◌∙◌, ℕ, ◌<◌, ◌≤◌, List, length, ◌++◌, ◌∷◌, sym, ap, subst, arith, IfNone}
use Rattle.hex.specs.Hex.{IsBytes}
use Rattle.text_fields.specs.Fields.{hex_text}
use Rattle.text_fields.proofs.FieldLemmas.{words_apart, word_whole, hex_text_blank}
use Rattle.taurus.proofs.line.read_row.Goals as goal

pub returns-in_default-clause-none : goal.returns-in_default-clause-none
returns-in_default-clause-none c = λ key value fit is. word_whole c.args.fields.now (hex_text key) (hex_text value) c.in_default.ensures.none is

pub returns-in_default-found-clause-none : goal.returns-in_default-found-clause-none
returns-in_default-found-clause-none c = λ key value fit is.
    let parts = words_apart c.in-Some.key.now (hex_text key) c.in-Some.value.now (hex_text value) c.in-Some.ensures.found.1 (hex_text_blank key fit.0.0) (sym c.in-Some.ensures.found.0 ∙ is) in
    let refused = subst (λ found. IfNone found ((bytes : List ℕ) → IsBytes bytes → 1 ≤ length bytes → length bytes ≤ 1024 → c.in-Some.key.now ≡ hex_text bytes → ⊥)) c.in_default-found.is c.in_ok-found.ensures.none in
    refused key fit.0.0 fit.0.1 fit.0.2 parts.0

pub returns-in_default-found-2-clause-none : goal.returns-in_default-found-2-clause-none
returns-in_default-found-2-clause-none c = λ key value fit is.
    let parts = words_apart c.in-Some.key.now (hex_text key) c.in-Some.value.now (hex_text value) c.in-Some.ensures.found.1 (hex_text_blank key fit.0.0) (sym c.in-Some.ensures.found.0 ∙ is) in
    let refused = subst (λ found. IfNone found ((bytes : List ℕ) → IsBytes bytes → 0 ≤ length bytes → length bytes ≤ 1024 → c.in-Some.value.now ≡ hex_text bytes → ⊥)) c.in_default-found-2.is c.in_ok-found-2.ensures.none in
    refused value fit.1.0 (omega arith) fit.1.1 parts.1
