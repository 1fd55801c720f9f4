-- What a reader of lines finds in what it held and read, and why it finds nothing.
use Rattle.std.specs.Prelude.{◌≡◌, ◌≢◌, ℕ, List, [], ◌∷◌, ◌++◌, length}
use Rattle.std.specs.Io.KnownBytes.{Consumes, IsAtEnd}
use Rattle.std.specs.declared.option.Option.{Option}
use Rattle.tm_ports.specs.Faults.{Rose}
use Rattle.tm_ports.specs.Lines.{IsShortLine, IsTooLong}
use Rattle.tm_ports.specs.declared.lines.Found.{Found}
use Rattle.tm_ports.specs.declared.lines.Found.TheVariants.{Line, Last, End}
use Rattle.tm_ports.specs.declared.lines.LineError.{LineError}
use Rattle.tm_ports.specs.declared.lines.LineError.TheVariants.{Failed, TooLong, NoMemory}

-- the bytes are a line, its line feed, and what is held now
pub record IsLineOf (bytes line held : List ℕ) : Type 0 where
  pub fits : IsShortLine line
  pub whole : bytes ≡ line ++ 10 ∷ held

-- the source is at its end, and the bytes are one line that no line feed ended
pub record IsLastOf (bytes line held : List ℕ) (end : Type 0) : Type 0 where
  pub fits : IsShortLine line
  pub some : line ≢ []
  pub whole : bytes ≡ line
  pub empty : held ≡ []
  pub ended : end

-- the source is at its end, and there are no bytes
pub record IsEndOf (bytes held : List ℕ) (end : Type 0) : Type 0 where
  pub none : bytes ≡ []
  pub empty : held ≡ []
  pub ended : end

-- what each answer says of the bytes that were held or read
abbrev pub IsFoundIn : Found → List ℕ → List ℕ → Type 0 → Type 0
IsFoundIn (Line line) bytes held end = IsLineOf bytes line held
IsFoundIn (Last line) bytes held end = IsLastOf bytes line held end
IsFoundIn End bytes held end = IsEndOf bytes held end

-- the source gave `input`, and the answer is what stands in front of all that was held and read
pub record Finds (left left' : Option (List ℕ)) (held held' : List ℕ) (answer : Found) : Type 0 where
  pub input : List ℕ
  pub read : Consumes left left' input
  pub found : IsFoundIn answer (held ++ input) held' (IsAtEnd left')

-- what is handed out at the end of the input: all that was held, if it was anything
abbrev pub IsRest : Found → List ℕ → Type 0
IsRest (Line line) held = ⊥
IsRest (Last line) held = (line ≡ held) × (held ≢ [])
IsRest End held = held ≡ []

-- one read put n bytes behind what was held, and n is 0 only at the end of the input
pub record Fills (left left' : Option (List ℕ)) (held held' : List ℕ) (n : ℕ) : Type 0 where
  pub input : List ℕ
  pub read : Consumes left left' input
  pub all : held' ≡ held ++ input
  pub count : length input ≡ n
  pub ended : n ≡ 0 → IsAtEnd left'

-- Each error hands nothing out and keeps what was read. A source that failed leaves no whole line in the reader.
abbrev pub LineCause : LineError → List ℕ → ℕ → ℕ → Type 0
LineCause Failed held' before now = IsShortLine held' × Rose before now
LineCause TooLong held' before now = IsTooLong held'
LineCause NoMemory held' before now = Unit {0}
