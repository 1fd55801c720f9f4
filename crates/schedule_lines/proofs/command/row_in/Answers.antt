use Rattle.std.proofs.Common.{◌≡◌, [], ◌∷◌, ℕ, List, subst, IfSome, IfNone}
use Rattle.text_fields.specs.Fields.{hex_text}
use Rattle.schedule_lines.specs.Lines.{IsKey, IsValue}
use Rattle.schedule_lines.proofs.WordLemmas.{third}
use Rattle.schedule_lines.proofs.command.row_in.Goals as goal

pub returns-in_default-3-clause-none : goal.returns-in_default-3-clause-none
returns-in_default-3-clause-none c = λ table key value in_table is_key is_value is.
    let read = subst (λ found. IfSome found (λ key. (c.u16.new.self ≡ hex_text key ∷ c.key.new.self) × IsKey key)) c.in-Some-2.is c.in_ok-key.ensures.some in
    let refused = subst (λ found. IfNone found ((value : List ℕ) (rest : List (List ℕ)) → IsValue value → c.key.new.self ≡ hex_text value ∷ rest → ⊥)) c.in_default-3.is c.in_ok-value.ensures.none in
    refused value [] is_value (third c.in-Some.ensures.some.0 read.0 is)
