-- Words of the program's own functions.
use Rattle.std.specs.Prelude.{◌≡◌, ◌≢◌, ◌⊎◌, ℕ, ◌+◌, List, [], ◌∷◌, ◌++◌, Bool, true, false, Some, None, codes}
use Rattle.std.specs.Io.KnownBytes.{Consumes, Appends, Keeps, IsAtEnd}
use Rattle.std.specs.declared.option.Option.{Option}
use Rattle.tm_ports.specs.Faults.{Rose}
use Rattle.tm_ports.specs.Lines.{IsLine, IsTooLong, Holds}
use Rattle.tm_ports.specs.declared.status.Status.{Status}
use Rattle.tm_ports.specs.declared.status.Status.TheVariants as status
use Rattle.net_world.specs.declared.step.PlainStep.{PlainStep}
use Rattle.net_world.specs.World.{State, first, stepped}
use Rattle.taurus.specs.declared.stop.Stop.{Stop}
use Rattle.taurus.specs.declared.stop.Stop.TheVariants.{Bad, ReadFault, WriteFault, NoMemory, Full}
use Rattle.taurus.specs.Lines.{first_line, step_line}
use Rattle.taurus.specs.Text.{step_text}
use Rattle.taurus.specs.Schedules.{Schedule, MayCome, line_count, state_of}
use Rattle.taurus.specs.Statuses.{IsBadLine, IsSpentLine, Reaches}

-- ---- one line

-- The line is a step that may come in this state, leads to that one, and writes this text.
pub record DoesStep (old : State) (line : List ℕ) (new : State) (text : List ℕ) : Type 0 where
  pub step : PlainStep
  pub may : MayCome old step
  pub spelled : line ≡ step_line step
  pub state : new ≡ (stepped old step).0
  pub written : text ≡ step_text old step

-- The same of any line: the first one makes the world.
abbrev pub Does : Option State → List ℕ → Option State → List ℕ → Type 0
Does None line new text = (line ≡ first_line) × (new ≡ Some first) × (text ≡ codes "ok" ++ (10 ∷ []))
Does (Some old) line new text = (after : State) × (new ≡ Some after) × DoesStep old line after text

-- why a line is not done
abbrev pub ExecuteCause : Stop → Option State → List ℕ → Type 0
ExecuteCause Bad old line = IsBadLine old line
ExecuteCause Full old line = IsSpentLine old line
ExecuteCause NoMemory old line = Unit {0}
ExecuteCause ReadFault old line = ⊥
ExecuteCause WriteFault old line = ⊥

-- The line is done, and the sink took what it writes.
pub record Performs (old : Option State) (line : List ℕ) (new : Option State) (taken taken' : Option (List ℕ)) : Type 0 where
  pub text : List ℕ
  pub does : Does old line new text
  pub written : Appends taken taken' text

-- The line is done, and the sink took a front of what it writes.
pub record Interrupts (old : Option State) (line : List ℕ) (taken taken' : Option (List ℕ)) : Type 0 where
  pub new : Option State
  pub text : List ℕ
  pub does : Does old line new text
  pub front : List ℕ
  pub unwritten : List ℕ
  pub whole : text ≡ front ++ unwritten
  pub written : Appends taken taken' front

-- why a line is not performed
abbrev pub PerformCause : Stop → Option State → List ℕ → Option (List ℕ) → Option (List ℕ) → ℕ → ℕ → Type 0
PerformCause Bad old line taken taken' writes writes' = IsBadLine old line × Keeps taken taken'
PerformCause Full old line taken taken' writes writes' = IsSpentLine old line × Keeps taken taken'
PerformCause NoMemory old line taken taken' writes writes' = Keeps taken taken' ⊎ Interrupts old line taken taken'
PerformCause WriteFault old line taken taken' writes writes' = Interrupts old line taken taken' × Rose writes writes'
PerformCause ReadFault old line taken taken' writes writes' = ⊥

-- ---- one line of the source

-- The source gave the rest of the next line: the bytes behind it are held.
pub record TakesLine (left left' : Option (List ℕ)) (held held' line : List ℕ) : Type 0 where
  pub input : List ℕ
  pub read : Consumes left left' input
  pub one : IsLine line
  pub whole : held ++ input ≡ line ++ 10 ∷ held'

-- The source is at its end, and the last line lacks its line feed.
pub record TakesLast (left left' : Option (List ℕ)) (held line : List ℕ) : Type 0 where
  pub input : List ℕ
  pub read : Consumes left left' input
  pub one : IsLine line
  pub whole : held ++ input ≡ line
  pub some : line ≢ []
  pub ended : IsAtEnd left'

-- The source is at its end, and there is no further line.
pub record TakesEnd (left left' : Option (List ℕ)) (held : List ℕ) : Type 0 where
  pub input : List ℕ
  pub read : Consumes left left' input
  pub none : held ++ input ≡ []
  pub ended : IsAtEnd left'

-- There is something of a further line.
pub record TakesSome (left left' : Option (List ℕ)) (held : List ℕ) : Type 0 where
  pub input : List ℕ
  pub read : Consumes left left' input
  pub some : held ++ input ≢ []

-- the next line, whether or not it has its line feed
abbrev pub Takes : Option (List ℕ) → Option (List ℕ) → List ℕ → List ℕ → List ℕ → Type 0
Takes left left' held held' line = TakesLine left left' held held' line ⊎ TakesLast left left' held line

-- A line was performed and further ones may come, or the input has ended, maybe with a last line that was performed.
abbrev pub Advances : Bool → Option (List ℕ) → Option (List ℕ) → List ℕ → List ℕ → Option State → Option State → Option (List ℕ) → Option (List ℕ) → Type 0
Advances true left left' held held' old new taken taken' =
    (line : List ℕ) × TakesLine left left' held held' line × Performs old line new taken taken'
Advances false left left' held held' old new taken taken' =
    (TakesEnd left left' held × Keeps taken taken')
    ⊎ ((line : List ℕ) × TakesLast left left' held line × Performs old line new taken taken')

-- why no line was performed
abbrev pub AdvanceCause : Stop → Option (List ℕ) → Option (List ℕ) → List ℕ → List ℕ → Option State → Option (List ℕ) → Option (List ℕ) → ℕ → ℕ → ℕ → ℕ → Type 0
AdvanceCause ReadFault left left' held held' old taken taken' reads reads' writes writes' =
    Holds left left' held held' × IsLine held' × Rose reads reads' × Keeps taken taken'
AdvanceCause Bad left left' held held' old taken taken' reads reads' writes writes' =
    (Holds left left' held held' × IsTooLong held' × Keeps taken taken')
    ⊎ ((line : List ℕ) × Takes left left' held held' line × IsBadLine old line × Keeps taken taken')
AdvanceCause Full left left' held held' old taken taken' reads reads' writes writes' =
    (line : List ℕ) × Takes left left' held held' line × IsSpentLine old line × Keeps taken taken'
AdvanceCause WriteFault left left' held held' old taken taken' reads reads' writes writes' =
    ((line : List ℕ) × Takes left left' held held' line × Interrupts old line taken taken') × Rose writes writes'
AdvanceCause NoMemory left left' held held' old taken taken' reads reads' writes writes' =
    (Holds left left' held held' × Keeps taken taken')
    ⊎ ((line : List ℕ) × Takes left left' held held' line × (Keeps taken taken' ⊎ Interrupts old line taken taken'))

-- the status in which a replay ends that stops at line n
abbrev pub status_of : Stop → ℕ → Status
status_of Bad n = status.BadSchedule n
status_of ReadFault n = status.ReadFault
status_of WriteFault n = status.WriteFault
status_of NoMemory n = status.NoMemory
status_of Full n = status.Full

-- The status where no number is left for a further line.
abbrev pub Spends : Status → Option (List ℕ) → Option (List ℕ) → List ℕ → List ℕ → ℕ → ℕ → Type 0
Spends status.Done left left' held held' reads reads' = TakesEnd left left' held
Spends status.Full left left' held held' reads reads' = TakesSome left left' held
Spends status.ReadFault left left' held held' reads reads' = Holds left left' held held' × IsLine held' × Rose reads reads'
Spends status.NoMemory left left' held held' reads reads' = Holds left left' held held'
Spends _ left left' held held' reads reads' = ⊥

-- So many lines were performed, the world is what they lead to, and the rest is held.
pub record At (left left' taken taken' : Option (List ℕ)) (world : Option State) (count : ℕ) (rest : List ℕ) : Type 0 where
  pub lines : Schedule
  pub reached : Reaches left left' taken taken' lines rest
  pub state : world ≡ state_of lines
  pub counted : count ≡ line_count lines
