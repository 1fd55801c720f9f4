use Rattle.std.proofs.Common.{arith, ◌≡◌, ◌∙◌, ℕ, List, codes, subst, sym, Ok, IfSome, IfNone}
use Rattle.std.proofs.lemmas.Bool.Decides.{Decides-eqb}
use Rattle.std.proofs.lemmas.Slice.Eq.{slice_eq-Decides}
use Rattle.hex.specs.Hex.{decode_of}
use Rattle.text_fields.proofs.HexFieldLemmas.{read_back, dash_alone, wrong_count, no_capital_spelled, decodes_to}
use Rattle.text_fields.proofs.hex_field.read_hex.Goals as goal
use Rattle.text_fields.proofs.hex_field.read_hex.Goals.{then-count-eq0-via-then-count-eq0, then-count-eq0-via-else-count-eq0+then-count-least, then-count-eq0-via-else-count-eq0+else-count-least+then-most-count, then-count-eq0-via-else-count-eq0+else-count-least+else-most-count+then-has_capital}

pub returns-then-eq-clause-none : goal.returns-then-eq-clause-none
returns-then-eq-clause-none c = λ bytes fit low high is.
    dash_alone c.args.word.now bytes ((slice_eq-Decides Decides-eqb c.args.word.now c.as_slice.result.now c.eq.result c.eq.ensures).0 c.if-eq.true ∙ c.as_slice.ensures) (omega arith) is

pub returns-then-count-eq0-clause-none : goal.returns-then-count-eq0-clause-none
returns-then-count-eq0-clause-none c = λ bytes fit low high is.
    let decided = slice_eq-Decides Decides-eqb c.args.word.now c.as_slice.result.now c.eq.result c.eq.ensures in
    let dash : c.args.word.now ≡ codes "-" → ⊥ = λ same. let e = decided.1 (same ∙ sym c.as_slice.ensures) in cc in
    let count = wrong_count c.args.word.now bytes dash is in
    elim c.then-count-eq0.branch [
      | then-count-eq0-via-then-count-eq0 w ↦ omega (arith, count.0, count.1)
      | then-count-eq0-via-else-count-eq0+then-count-least w ↦ omega (arith, count.0)
      | then-count-eq0-via-else-count-eq0+else-count-least+then-most-count w ↦ omega (arith, count.0)
      | then-count-eq0-via-else-count-eq0+else-count-least+else-most-count+then-has_capital w ↦
          w.if-has_capital.ensures.found (no_capital_spelled c.args.word.now bytes dash fit is)
    ]

pub returns-clause-some : goal.returns-clause-some
returns-clause-some c =
    let read : decode_of c.args.word.now ≡ Ok c.in-Some.bytes.items = subst (λ found. IfSome found (λ bytes. decode_of c.args.word.now ≡ Ok bytes.items)) c.in-Some.is c.in_ok-found.ensures.some in
    let so = read_back c.args.word.now c.in-Some.bytes.items read c.if-has_capital.ensures.none (omega arith) in
    let same : c.from_vec.result ≡ c.in-Some.bytes.items = c.from_vec.ensures in
    rw same (so.0, so.1, omega (arith, so.2), omega (arith, so.2))

pub returns-in_default-clause-none : goal.returns-in_default-clause-none
returns-in_default-clause-none c = λ bytes fit low high is.
    let decided = slice_eq-Decides Decides-eqb c.args.word.now c.as_slice.result.now c.eq.result c.eq.ensures in
    let dash : c.args.word.now ≡ codes "-" → ⊥ = λ same. let e = decided.1 (same ∙ sym c.as_slice.ensures) in cc in
    let refused = subst (λ found. IfNone found ((bytes : List ℕ) → decode_of c.args.word.now ≡ Ok bytes → ⊥)) c.in_default.is c.in_ok-found.ensures.none in
    refused bytes (decodes_to c.args.word.now bytes dash fit is)
