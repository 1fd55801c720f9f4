-- What each status of a replay says of the bytes that were read and of those that were written.
--
-- `left` and `left'` are the bytes that the source had left before and has left after, and `taken` and `taken'`
-- those that the sink had taken and has taken now, where they tell them.
use Rattle.std.specs.Prelude.{◌≡◌, ◌≢◌, ◌⊎◌, ℕ, ◌+◌, ◌-◌, ◌^◌, ◌<◌, ◌≤◌, List, [], ◌∷◌, ◌++◌, true, Some, None, codes, length}
use Rattle.std.specs.Io.KnownBytes.{Consumes, Appends, IsAtEnd}
use Rattle.std.specs.declared.option.Option.{Option}
use Rattle.tm_ports.specs.Faults.{Rose}
use Rattle.tm_ports.specs.Lines.{IsLine, IsTooLong}
use Rattle.tm_ports.specs.declared.status.Status.{Status}
use Rattle.tm_ports.specs.declared.status.Status.TheVariants.{Done, Words, BadSchedule, ReadFault, WriteFault, NoMemory, Full}
use Rattle.net_world.specs.declared.step.PlainStep.{PlainStep}
use Rattle.net_world.specs.World.{State, first, stepped, allows, is_over}
use Rattle.taurus.specs.Lines.{first_line, step_line, IsFit}
use Rattle.taurus.specs.Schedules.{Schedule, steps_of, schedule_text, line_count, state_of, IsSchedule, transcript, IsTrueRun}

-- ---- the words of a program that replays

abbrev pub IsReplay : List (List ℕ) → Type 0
IsReplay words = words ≡ codes "replay" ∷ []

-- ---- lines

-- The bytes begin with this line. Its line feed may be wanting where the source is at its end.
pub record BeginsWith (bytes line : List ℕ) (end : Type 0) : Type 0 where
  pub one : IsLine line
  pub whole : ((more : List ℕ) × (bytes ≡ line ++ 10 ∷ more)) ⊎ ((bytes ≡ line) × (line ≢ []) × end)

-- Where no line was read the next is `plain`, and then it is a step that is allowed: this line is not.
abbrev pub IsBadLine : Option State → List ℕ → Type 0
IsBadLine None line = line ≡ first_line → ⊥
IsBadLine (Some w) line = (s : PlainStep) → IsFit s → allows w s ≡ true → line ≡ step_line s → ⊥

-- The step that the line spells is allowed, and would send message number 2^32 - 1.
pub record IsSpentStep (w : State) (line : List ℕ) : Type 0 where
  pub step : PlainStep
  pub fit : IsFit step
  pub spelled : line ≡ step_line step
  pub allowed : allows w step ≡ true
  pub over : is_over (stepped w step).0 ≡ true

abbrev pub IsSpentLine : Option State → List ℕ → Type 0
IsSpentLine None line = ⊥
IsSpentLine (Some w) line = IsSpentStep w line

-- ---- how far a replay came

-- The lines of this schedule were read and a rest behind them, and the sink took exactly their transcript.
pub record Reaches (left left' taken taken' : Option (List ℕ)) (lines : Schedule) (rest : List ℕ) : Type 0 where
  pub input : List ℕ
  pub read : Consumes left left' input
  pub spelled : input ≡ schedule_text lines ++ rest
  pub allowed : IsSchedule lines
  pub counted : line_count lines < 2 ^ 32 - 1
  pub written : Appends taken taken' (transcript lines)
  pub true_run : IsTrueRun (steps_of lines)

-- Done: the source was read to its end, the input is the schedule, whose last line may lack its line feed, and the
-- sink took exactly its transcript.
pub record Finishes (left left' taken taken' : Option (List ℕ)) : Type 0 where
  pub lines : Schedule
  pub input : List ℕ
  pub read : Consumes left left' input
  pub ended : IsAtEnd left'
  pub spelled : (input ≡ schedule_text lines) ⊎ (input ++ 10 ∷ [] ≡ schedule_text lines)
  pub allowed : IsSchedule lines
  pub counted : line_count lines < 2 ^ 32 - 1
  pub written : Appends taken taken' (transcript lines)
  pub true_run : IsTrueRun (steps_of lines)

-- BadSchedule: the lines before line n were run and their transcript was taken, and line n is bad or too long.
pub record StopsAt (left left' taken taken' : Option (List ℕ)) (n : ℕ) : Type 0 where
  pub lines : Schedule
  pub rest : List ℕ
  pub reached : Reaches left left' taken taken' lines rest
  pub number : n ≡ line_count lines + 1
  pub bad : ((line : List ℕ) × BeginsWith rest line (IsAtEnd left') × IsBadLine (state_of lines) line) ⊎ IsTooLong rest

-- ReadFault: the lines that had ended with a line feed were run and their transcript was taken.
pub record StopsReading (left left' taken taken' : Option (List ℕ)) : Type 0 where
  pub lines : Schedule
  pub rest : List ℕ
  pub reached : Reaches left left' taken taken' lines rest
  pub one : IsLine rest

-- Full: the lines before were run and their transcript was taken; a further line would have number 2^32 - 1, or its
-- step would send message number 2^32 - 1.
pub record RunsOut (left left' taken taken' : Option (List ℕ)) : Type 0 where
  pub lines : Schedule
  pub rest : List ℕ
  pub reached : Reaches left left' taken taken' lines rest
  pub spent : ((line_count lines + 1 ≡ 2 ^ 32 - 1) × (rest ≢ []))
      ⊎ ((line : List ℕ) × BeginsWith rest line (IsAtEnd left') × IsSpentLine (state_of lines) line)

-- WriteFault and NoMemory: the lines of a schedule were read, the last one without its line feed only where the source is
-- at its end, and the sink took a front of their transcript.
pub record BreaksOff (left left' taken taken' : Option (List ℕ)) : Type 0 where
  pub lines : Schedule
  pub rest : List ℕ
  pub input : List ℕ
  pub read : Consumes left left' input
  pub spelled : (input ≡ schedule_text lines ++ rest) ⊎ ((input ++ 10 ∷ [] ≡ schedule_text lines) × IsAtEnd left')
  pub allowed : IsSchedule lines
  pub counted : line_count lines < 2 ^ 32 - 1
  pub front : List ℕ
  pub unwritten : List ℕ
  pub whole : transcript lines ≡ front ++ unwritten
  pub written : Appends taken taken' front
  pub true_run : IsTrueRun (steps_of lines)

-- What a replay with this status did. It has no other.
abbrev pub Replays : Status → Option (List ℕ) → Option (List ℕ) → Option (List ℕ) → Option (List ℕ) → ℕ → ℕ → ℕ → ℕ → Type 0
Replays Done left left' taken taken' reads reads' writes writes' = Finishes left left' taken taken'
Replays (BadSchedule n) left left' taken taken' reads reads' writes writes' = StopsAt left left' taken taken' n
Replays ReadFault left left' taken taken' reads reads' writes writes' = StopsReading left left' taken taken' × Rose reads reads'
Replays WriteFault left left' taken taken' reads reads' writes writes' = BreaksOff left left' taken taken' × Rose writes writes'
Replays NoMemory left left' taken taken' reads reads' writes writes' = BreaksOff left left' taken taken'
Replays Full left left' taken taken' reads reads' writes writes' = RunsOut left left' taken taken'
Replays _ left left' taken taken' reads reads' writes writes' = ⊥

-- the statuses that come
abbrev pub IsStatusOfReplay : Status → Type 0
IsStatusOfReplay Done = Unit {0}
IsStatusOfReplay Words = Unit {0}
IsStatusOfReplay (BadSchedule n) = Unit {0}
IsStatusOfReplay ReadFault = Unit {0}
IsStatusOfReplay WriteFault = Unit {0}
IsStatusOfReplay NoMemory = Unit {0}
IsStatusOfReplay Full = Unit {0}
IsStatusOfReplay _ = ⊥
