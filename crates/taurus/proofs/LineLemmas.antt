-- What a line spells.
use Rattle.std.proofs.Common.{◌≡◌, ◌≢◌, ◌∙◌, ℕ, ◌+◌, ◌<◌, ◌≤◌, ◌^◌, List, [], ◌∷◌, ◌++◌, length, drop, take, slice_index, codes, decimal, Bool, true, false, is_some, nat_eq, Option, Some, None, IfSome, IfNone, refl, sym, ap, subst, arith}
use Rattle.std.proofs.lemmas.Bool.Decides.{Decides-eqb}
use Rattle.std.proofs.lemmas.Fmt.{decimal_injective}
use Rattle.std.proofs.lemmas.Slice.Eq.{slice_eq-Decides}
use Rattle.std.specs.Cmp.Lexicographic.{pointwise}
use Rattle.hex.specs.Hex.{IsBytes}
use Rattle.net_world.specs.declared.step.PlainStep.{PlainStep}
use Rattle.net_world.specs.declared.step.PlainStep.TheVariants.{Begin, Get, Put, Commit, Deliver}
use Rattle.text_fields.specs.Fields.{hex_text, HasNoBlank}
use Rattle.text_fields.proofs.FieldLemmas.{words_apart, word_whole, decimal_blank, hex_text_blank, hex_text_injective}
use Rattle.taurus.specs.Lines.{step_line, IsFit, IsKey, IsValue, IsRow}

-- two spellings of a table and what follows it
pub tables_apart : (s t : ℕ) (x y : List ℕ) → s < 2 ^ 16 → t < 2 ^ 16 → decimal s ++ 32 ∷ x ≡ decimal t ++ 32 ∷ y → (s ≡ t) × (x ≡ y)
tables_apart s t x y p q e =
    let parts = words_apart (decimal s) (decimal t) x y (decimal_blank s (omega arith)) (decimal_blank t (omega arith)) e in
    (decimal_injective s t (omega arith) (omega arith) parts.0, parts.1)

-- what follows a known front
pub behind : (front line fields rest : List ℕ) → fields ≡ drop (length front) line → line ≡ front ++ rest → fields ≡ rest
behind [] line fields rest is e = is ∙ e
behind (f ∷ front) [] fields rest is e = cc
behind (f ∷ front) (c ∷ line) fields rest is e = behind front line fields rest is (let same : line ≡ front ++ rest = cc in same)

-- a step of each kind is excluded
pub no_step : (line : List ℕ) → (line ≡ step_line Begin → ⊥) → (line ≡ step_line Commit → ⊥)
    → ((table : ℕ) (key : List ℕ) → IsFit (Get table key) → line ≡ step_line (Get table key) → ⊥)
    → ((table : ℕ) (key value : List ℕ) → IsFit (Put table key value) → line ≡ step_line (Put table key value) → ⊥)
    → ((number : ℕ) → IsFit (Deliver number) → line ≡ step_line (Deliver number) → ⊥) → (s : PlainStep) → IsFit s → line ≡ step_line s → ⊥
no_step line begin commit get put deliver Begin fit is = begin is
no_step line begin commit get put deliver Commit fit is = commit is
no_step line begin commit get put deliver (Get table key) fit is = get table key fit is
no_step line begin commit get put deliver (Put table key value) fit is = put table key value fit is
no_step line begin commit get put deliver (Deliver number) fit is = deliver number fit is

pub none_is : {A : Type 0} (o : Option A) (P : Type 0) → is_some o ≡ false → IfNone o P → P
none_is None P e p = p
none_is (Some x) P e p = cc

pub none_weaker : {A : Type 0} (o : Option A) (P Q : Type 0) → (P → Q) → IfNone o P → IfNone o Q
none_weaker None P Q f p = f p
none_weaker (Some x) P Q f p = p

-- what a test for a text excludes
pub no_text : (line text known : List ℕ) (test : Bool) → test ≡ pointwise nat_eq line text → test ≡ false → text ≡ known → line ≡ known → ⊥
no_text line text known test is e k same =
    let decided = slice_eq-Decides Decides-eqb line text test is in
    let yes = decided.1 (same ∙ sym k) in
    cc
