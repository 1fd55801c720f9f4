use Rattle.std.proofs.Common.{◌≡◌, [], ◌∷◌, ℕ, List, Option, Some, None, subst, IfNone, arith}
use Rattle.text_fields.specs.Fields.{hex_text}
use Rattle.schedule_lines.specs.Lines.{IsValue, IsFrom, from_text}
use Rattle.schedule_lines.proofs.words.Words.from.Goals as goal

no_from : (words : List (List ℕ)) → ((value : List ℕ) (rest : List (List ℕ)) → IsValue value → words ≡ hex_text value ∷ rest → ⊥)
    → (from : Option (List ℕ)) (rest : List (List ℕ)) → IsFrom from → words ≡ from_text from ∷ rest → ⊥
no_from words none None rest fit is = none [] rest ((λ i. omega arith), (omega arith, omega arith)) is
no_from words none (Some key) rest fit is = none key rest (fit.0, (omega arith, fit.1.1)) is

pub returns-in_default-clause-none : goal.returns-in_default-clause-none
returns-in_default-clause-none c =
    let refused = subst (λ found. IfNone found ((value : List ℕ) (rest : List (List ℕ)) → IsValue value → c.args.self.now ≡ hex_text value ∷ rest → ⊥)) c.in_default.is c.in_ok-bytes.ensures.none in
    no_from c.args.self.now refused
