-- A line spells one step.
use Rattle.std.proofs.Common.{◌≡◌, ◌∙◌, ℕ, ◌<◌, ◌≤◌, ◌^◌, List, ◌∷◌, ◌++◌, slice_index, decimal, true, false, refl, sym, ap, arith}
use Rattle.std.proofs.lemmas.Fmt.{decimal_injective}
use Rattle.std.proofs.lemmas.List.{append_cancel_left}
use Rattle.std.specs.Prelude.{codes}
use Rattle.net_world.specs.declared.step.PlainStep.{PlainStep}
use Rattle.net_world.specs.declared.step.PlainStep.TheVariants.{Begin, Get, Put, Commit, Deliver}
use Rattle.net_world.specs.World.{State, allows}
use Rattle.text_fields.specs.Fields.{hex_text}
use Rattle.text_fields.proofs.FieldLemmas.{words_apart, hex_text_blank, hex_text_injective}
use Rattle.taurus.specs.Lines.{step_line, IsFit}
use Rattle.taurus.proofs.LineLemmas.{tables_apart}

-- texts that differ at a place are not one
different : {A : Type 0} (i x y : ℕ) (a b : List ℕ) → a ≡ b → slice_index a i ≡ x → slice_index b i ≡ y → (x ≡ y → ⊥) → A
different i x y a b e p q distinct = absurd (distinct (sym p ∙ ap (λ (l : List ℕ). slice_index l i) e ∙ q))

pub one_step : (a b : PlainStep) → IsFit a → IsFit b → step_line a ≡ step_line b → a ≡ b
one_step Begin Begin p q e = refl
one_step Commit Commit p q e = refl
one_step (Deliver m) (Deliver n) p q e =
    ap Deliver (decimal_injective m n (omega arith) (omega arith) (append_cancel_left (codes "deliver ") (decimal m) (decimal n) e))
one_step (Get s j) (Get t k) p q e =
    let parts = tables_apart s t (hex_text j) (hex_text k) p.0 q.0 (append_cancel_left (codes "do m1 1 get ") _ _ e) in
    let keys = hex_text_injective j k p.1.0 q.1.0 parts.1 in
    ap (λ x. Get x j) parts.0 ∙ ap (Get t) keys
one_step (Put s j v) (Put t k w) p q e =
    let parts = tables_apart s t (hex_text j ++ 32 ∷ hex_text v) (hex_text k ++ 32 ∷ hex_text w) p.0 q.0 (append_cancel_left (codes "do m1 1 put ") _ _ e) in
    let row = words_apart (hex_text j) (hex_text k) (hex_text v) (hex_text w) (hex_text_blank j p.1.0.0) (hex_text_blank k q.1.0.0) parts.1 in
    let keys = hex_text_injective j k p.1.0.0 q.1.0.0 row.0 in
    let values = hex_text_injective v w p.1.1.0 q.1.1.0 row.1 in
    ap (λ x. Put x j v) parts.0 ∙ ap (λ x. Put t x v) keys ∙ ap (Put t k) values
one_step Begin (Get t k) p q e = different 8 98 103 _ _ e refl refl (λ h. omega arith)
one_step Begin (Put t k v) p q e = different 8 98 112 _ _ e refl refl (λ h. omega arith)
one_step Begin Commit p q e = different 8 98 99 _ _ e refl refl (λ h. omega arith)
one_step Begin (Deliver n) p q e = different 1 111 101 _ _ e refl refl (λ h. omega arith)
one_step (Get t k) Begin p q e = different 8 103 98 _ _ e refl refl (λ h. omega arith)
one_step (Get t k) (Put s j v) p q e = different 8 103 112 _ _ e refl refl (λ h. omega arith)
one_step (Get t k) Commit p q e = different 8 103 99 _ _ e refl refl (λ h. omega arith)
one_step (Get t k) (Deliver n) p q e = different 1 111 101 _ _ e refl refl (λ h. omega arith)
one_step (Put t k v) Begin p q e = different 8 112 98 _ _ e refl refl (λ h. omega arith)
one_step (Put t k v) (Get s j) p q e = different 8 112 103 _ _ e refl refl (λ h. omega arith)
one_step (Put t k v) Commit p q e = different 8 112 99 _ _ e refl refl (λ h. omega arith)
one_step (Put t k v) (Deliver n) p q e = different 1 111 101 _ _ e refl refl (λ h. omega arith)
one_step Commit Begin p q e = different 8 99 98 _ _ e refl refl (λ h. omega arith)
one_step Commit (Get t k) p q e = different 8 99 103 _ _ e refl refl (λ h. omega arith)
one_step Commit (Put t k v) p q e = different 8 99 112 _ _ e refl refl (λ h. omega arith)
one_step Commit (Deliver n) p q e = different 1 111 101 _ _ e refl refl (λ h. omega arith)
one_step (Deliver n) Begin p q e = different 1 101 111 _ _ e refl refl (λ h. omega arith)
one_step (Deliver n) (Get t k) p q e = different 1 101 111 _ _ e refl refl (λ h. omega arith)
one_step (Deliver n) (Put t k v) p q e = different 1 101 111 _ _ e refl refl (λ h. omega arith)
one_step (Deliver n) Commit p q e = different 1 101 111 _ _ e refl refl (λ h. omega arith)

-- a line whose step is not allowed spells none that is
pub not_allowed : (w : State) (line : List ℕ) (step : PlainStep) → line ≡ step_line step → IsFit step → allows w step ≡ false
    → (s : PlainStep) → IsFit s → allows w s ≡ true → line ≡ step_line s → ⊥
not_allowed w line step is fit refused s also allowed spelled =
    let same = one_step s step also fit (sym spelled ∙ is) in
    let no : true ≡ false = sym allowed ∙ ap (allows w) same ∙ refused in
    cc
