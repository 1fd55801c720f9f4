use Rattle.std.proofs.Common.{◌≡◌, ◌∙◌, ℕ, List, codes, sym}
use Rattle.taurus.specs.Lines.{step_line, IsFit}
use Rattle.net_world.specs.declared.step.PlainStep.{PlainStep}
use Rattle.net_world.specs.declared.step.PlainStep.TheVariants.{Get, Put, Deliver}
use Rattle.taurus.proofs.LineLemmas.{no_step, no_text, none_is, none_weaker}
use Rattle.taurus.proofs.line.read_step.Goals as goal

pub returns-clause-none : goal.returns-clause-none
returns-clause-none c =
    let line : List ℕ = c.args.line.now in
    let get = none_is c.in_ok-get.get ((table : ℕ) (key : List ℕ) → IsFit (Get table key) → line ≡ step_line (Get table key) → ⊥) (sym c.is_some.ensures ∙ c.if-is_some.false) c.in_ok-get.ensures.none in
    let put = none_is c.in_ok-put.put ((table : ℕ) (key value : List ℕ) → IsFit (Put table key value) → line ≡ step_line (Put table key value) → ⊥) (sym c.is_some-2.ensures ∙ c.if-is_some-2.false) c.in_ok-put.ensures.none in
    none_weaker c.read_deliver.result ((number : ℕ) → IsFit (Deliver number) → line ≡ step_line (Deliver number) → ⊥) ((step : PlainStep) → IsFit step → line ≡ step_line step → ⊥)
    (no_step line (no_text line c.as_slice.result.now (codes "do m1 1 begin") c.eq.result c.eq.ensures c.if-eq.false c.as_slice.ensures)
    (no_text line c.as_slice-2.result.now (codes "do m1 1 commit") c.eq-2.result c.eq-2.ensures c.if-eq-2.false c.as_slice-2.ensures) get put) c.read_deliver.ensures.none
