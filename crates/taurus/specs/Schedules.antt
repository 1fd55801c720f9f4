-- A schedule, how it is spelled, which lines may come in it, and the transcript of its run.
--
-- A schedule is `None` where it has no line, and else the steps that stand behind its first line, `plain`.
use Rattle.std.specs.Prelude.{◌≡◌, ℕ, ◌+◌, List, [], ◌∷◌, ◌++◌, true, false, Some, None, codes, length}
use Rattle.std.specs.declared.option.Option.{Option}
use Rattle.tm_data.specs.declared.transaction.Txn.{Txn}
use Rattle.net_world.specs.declared.step.PlainStep.{PlainStep}
use Rattle.net_world.specs.declared.step.PlainStep.TheVariants.{Put, Commit}
use Rattle.net_world.specs.World.{State, first, stepped, allows, is_over}
use Rattle.net_world.specs.Runs.{run}
use Rattle.net_world.specs.Claims.{RepliesAreTheMachines, RepliesHaveTheirCauses, CommittedStands, PutStands, OwnValueIsSeen}
use Rattle.taurus.specs.Lines.{first_line, step_line, IsFit}
use Rattle.taurus.specs.Text.{step_text}

abbrev pub Schedule : Type 0
Schedule = Option (List PlainStep)

abbrev pub steps_of : Schedule → List PlainStep
steps_of None = []
steps_of (Some steps) = steps

-- ---- the text of a schedule: each line with its line feed

abbrev pub steps_text : List PlainStep → List ℕ
steps_text [] = []
steps_text (s ∷ steps) = step_line s ++ (10 ∷ steps_text steps)

abbrev pub schedule_text : Schedule → List ℕ
schedule_text None = []
schedule_text (Some steps) = first_line ++ (10 ∷ steps_text steps)

abbrev pub line_count : Schedule → ℕ
line_count None = 0
line_count (Some steps) = length steps + 1

-- ---- its run

-- The world after the schedule: none before its first line.
abbrev pub state_of : Schedule → Option State
state_of None = None
state_of (Some steps) = Some (run first steps)

-- The step has a spelling, names no message that was not yet sent, and sends none of number 2^32 - 1.
pub record MayCome (w : State) (s : PlainStep) : Type 0 where
  pub fit : IsFit s
  pub allowed : allows w s ≡ true
  pub room : is_over (stepped w s).0 ≡ false

abbrev pub MayRun : State → List PlainStep → Type 0
MayRun w [] = Unit {0}
MayRun w (s ∷ steps) = MayCome w s × MayRun (stepped w s).0 steps

abbrev pub IsSchedule : Schedule → Type 0
IsSchedule None = Unit {0}
IsSchedule (Some steps) = MayRun first steps

-- what these steps write from this state on
abbrev pub run_text : State → List PlainStep → List ℕ
run_text w [] = []
run_text w (s ∷ steps) = step_text w s ++ run_text (stepped w s).0 steps

-- The transcript: `ok` for the first line, and then what each step writes.
abbrev pub transcript : Schedule → List ℕ
transcript None = []
transcript (Some steps) = codes "ok" ++ (10 ∷ run_text first steps)

-- ---- what holds of its run

-- Each reply is the plain machine's, and comes exactly where its cause holds in the state that the run had reached. A
-- transaction that was answered Committed stands at every later step, each of its puts among it, and sees its own puts
-- before.
pub record IsTrueRun (steps : List PlainStep) : Type 0 where
  pub machine : RepliesAreTheMachines steps
  pub causes : (before after : List PlainStep) → steps ≡ before ++ after → RepliesHaveTheirCauses before
  pub stands : (before after later : List PlainStep) (t : Txn) → steps ≡ before ++ Commit ∷ (after ++ later) → CommittedStands before after t
  pub puts : (before between after later : List PlainStep) (table : ℕ) (key value : List ℕ) (t : Txn)
      → steps ≡ before ++ Put table key value ∷ (between ++ Commit ∷ (after ++ later)) → PutStands before between after table key value t
  pub seen : (before after : List PlainStep) (table : ℕ) (key value : List ℕ)
      → steps ≡ before ++ Put table key value ∷ after → OwnValueIsSeen before table key value
