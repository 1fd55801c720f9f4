-- One line more: its text, its transcript and its state.
use Rattle.std.proofs.Common.{◌≡◌, ◌∙◌, ℕ, ◌+◌, ◌-◌, ◌^◌, ◌<◌, ◌≤◌, List, [], ◌∷◌, ◌++◌, Option, Some, None, length, length-append, append-nil, append_assoc, codes, refl, sym, ap, subst, arith}
use Rattle.net_world.specs.declared.step.PlainStep.{PlainStep}
use Rattle.net_world.specs.World.{State, first, stepped}
use Rattle.net_world.specs.Runs.{run}
use Rattle.taurus.specs.Lines.{first_line, step_line}
use Rattle.taurus.specs.Text.{step_text}
use Rattle.taurus.specs.Schedules.{Schedule, steps_text, schedule_text, line_count, state_of, MayCome, MayRun, IsSchedule, run_text, transcript}
use Rattle.taurus.specs.Inside.{DoesStep, Does}

steps_text-push : (steps : List PlainStep) (s : PlainStep) → steps_text (steps ++ s ∷ []) ≡ steps_text steps ++ (step_line s ++ 10 ∷ [])
steps_text-push [] s = refl
steps_text-push (x ∷ steps) s =
    ap (λ (r : List ℕ). step_line x ++ (10 ∷ r)) (steps_text-push steps s) ∙ sym (append_assoc (step_line x) (10 ∷ steps_text steps) (step_line s ++ 10 ∷ []))

run-push : (w : State) (steps : List PlainStep) (s : PlainStep) → run w (steps ++ s ∷ []) ≡ (stepped (run w steps) s).0
run-push w [] s = refl
run-push w (x ∷ steps) s = run-push (stepped w x).0 steps s

run_text-push : (w : State) (steps : List PlainStep) (s : PlainStep) → run_text w (steps ++ s ∷ []) ≡ run_text w steps ++ step_text (run w steps) s
run_text-push w [] s = append-nil (step_text w s)
run_text-push w (x ∷ steps) s =
    ap (λ (r : List ℕ). step_text w x ++ r) (run_text-push (stepped w x).0 steps s)
    ∙ sym (append_assoc (step_text w x) (run_text (stepped w x).0 steps) (step_text (run (stepped w x).0 steps) s))

may_run-push : (w : State) (steps : List PlainStep) (s : PlainStep) → MayRun w steps → MayCome (run w steps) s → MayRun w (steps ++ s ∷ [])
may_run-push w [] s all one = (one, tt)
may_run-push w (x ∷ steps) s all one = (all.0, may_run-push (stepped w x).0 steps s all.1 one)

-- the schedule with this line behind it
pub record Pushed (lines : Schedule) (line : List ℕ) (new : Option State) (text : List ℕ) : Type 0 where
  pub longer : Schedule
  pub state : new ≡ state_of longer
  pub spelled : schedule_text longer ≡ schedule_text lines ++ (line ++ 10 ∷ [])
  pub written : transcript longer ≡ transcript lines ++ text
  pub counted : line_count longer ≡ line_count lines + 1
  pub allowed : IsSchedule lines → IsSchedule longer

pub pushed : (lines : Schedule) (line : List ℕ) (new : Option State) (text : List ℕ) → Does (state_of lines) line new text → Pushed lines line new text
pushed None line new text does =
    record {
      longer = Some [];
      state = does.1;
      spelled = ap (λ (l : List ℕ). l ++ 10 ∷ []) (sym does.0);
      written = sym does.2;
      counted = refl;
      allowed = λ all. tt;
    }
pushed (Some steps) line new text does =
    let so = does.2 in
    record {
      longer = Some (steps ++ so.step ∷ []);
      state = does.1 ∙ ap Some (so.state ∙ sym (run-push first steps so.step));
      spelled = ap (λ (r : List ℕ). first_line ++ (10 ∷ r)) (steps_text-push steps so.step) ∙ ap (λ (l : List ℕ). schedule_text (Some steps) ++ (l ++ 10 ∷ [])) (sym so.spelled);
      written = ap (λ (r : List ℕ). codes "ok" ++ (10 ∷ r)) (run_text-push first steps so.step) ∙ ap (λ (t : List ℕ). transcript (Some steps) ++ t) (sym so.written);
      counted = omega (arith, length-append steps (so.step ∷ []));
      allowed = λ all. may_run-push first steps so.step all so.may;
    }
