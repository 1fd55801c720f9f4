-- The relation of the steps and the function are one, step by step and over runs.
use Rattle.std.specs.Prelude.{◌≡◌, ◌⊎◌, List, [], ◌∷◌, Bool, true, false, not, Some, None}
use Rattle.std.proofs.Common.{refl, sym, ◌∙◌, ap, subst, inl, inr}
use Rattle.std.specs.declared.option.Option.{Option}
use Rattle.std.specs.FinMap as fin
use Rattle.key_model.specs.declared.step.MachineStep.{MachineStep}
use Rattle.key_model.specs.declared.step.MachineStep.TheVariants.{Answered, Settle, Close, Recover}
use Rattle.key_model.specs.State.{State}
use Rattle.key_model.specs.Steps.{txn_in, says_end, AnswersDoomed, AnswersLiving, Steps, Run}
use Rattle.key_model.specs.After.{is_doomed, answered, after, after_all, told}
use Rattle.key_model.specs.Took.{Took}
use Rattle.key_index.proofs.AnyLemmas.{true_or_false, not_both, some_is, none_not_some}
use Rattle.key_model.proofs.LawLemmas.{not_true, true_not, gives, needs, doomed_true, true_doomed, answers_to, answers_from, settles_to, settles_from}
use Rattle.key_model.proofs.CloseLemmas.{closes_to, closes_from, recovery_to, recovery_from}

pub step_to : (old : State) (step : MachineStep) (new : State) → Steps old step new → after old step ≡ Some new
step_to old (Settle t committed) new h = settles_to old t (fin.get old.opened t) committed new h
step_to old (Close writer ends puts) new h = closes_to old writer ends puts new h
step_to old (Recover writer) new h = recovery_to old writer new h
step_to old (Answered writer session asked said) new (inl h) =
    ap (λ b. answered b old writer session asked said) (doomed_true old (txn_in old writer session) h.doomed) ∙ gives _ old new (not_true _ h.no_end) h.unchanged
step_to old (Answered writer session asked said) new (inr h) =
    ap (λ b. answered b old writer session asked said) (true_or_false _ (λ d. h.living (true_doomed old (txn_in old writer session) d)))
    ∙ answers_to old writer session asked said new h.answered

pub step_from : (old : State) (step : MachineStep) (new : State) → after old step ≡ Some new → Steps old step new
step_from old (Settle t committed) new h = settles_from old t (fin.get old.opened t) committed new h
step_from old (Close writer ends puts) new h = closes_from old writer ends puts new h
step_from old (Recover writer) new h = recovery_from old writer new h
step_from old (Answered writer session asked said) new h = by (is_doomed old (txn_in old writer session)) refl h
  where
    by : (b : Bool) → is_doomed old (txn_in old writer session) ≡ b → answered b old writer session asked said ≡ Some new
        → AnswersDoomed old (txn_in old writer session) said new ⊎ AnswersLiving old writer session asked said new
    by true d h =
        let n = needs (not (says_end said)) old new h in
        inl (record { doomed = true_doomed old (txn_in old writer session) d; no_end = true_not _ n.0; unchanged = n.1 })
    by false d h =
        inr (record { living = λ is. not_both _ (doomed_true old (txn_in old writer session) is) d; answered = answers_from old writer session asked said new h })

after_none : (steps : List MachineStep) → after_all None steps ≡ None
after_none [] = refl
after_none (step ∷ steps) = refl

pub run_to : (old : State) (steps : List MachineStep) (new : State) → Run old steps new → after_all (Some old) steps ≡ Some new
run_to old [] new h = ap Some (sym h)
run_to old (step ∷ steps) new h = ap (λ m. after_all m steps) (step_to old step h.0 h.1) ∙ run_to h.0 steps new h.2

pub run_from : (old : State) (steps : List MachineStep) (new : State) → after_all (Some old) steps ≡ Some new → Run old steps new
run_from old [] new h = sym (some_is old new h)
run_from old (step ∷ steps) new h = by (after old step) refl h (λ mid. run_from mid steps new)
  where
    by : (m : Option State) → after old step ≡ m → after_all m steps ≡ Some new → ((mid : State) → after_all (Some mid) steps ≡ Some new → Run mid steps new)
        → (mid : State) × Steps old step mid × Run mid steps new
    by None is h rest = absurd (none_not_some new (sym (after_none steps) ∙ h))
    by (Some mid) is h rest = (mid, step_from old step mid is, rest mid h)

-- what the running machine tells of a step
pub took : (old : State) (step : MachineStep) (new : State) (allowed : Bool) → (new, allowed) ≡ told old (after old step) → Took old step allowed new
took old step new allowed h = subst (λ (p : State × Bool). Took old step p.1 p.0) (sym h) (by (after old step) refl)
  where
    by : (m : Option State) → after old step ≡ m → Took old step (told old m).1 (told old m).0
    by None is = (λ other s. none_not_some other (sym is ∙ step_to old step other s), refl)
    by (Some mid) is = step_from old step mid is
