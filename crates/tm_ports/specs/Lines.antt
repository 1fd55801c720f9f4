-- The lines of a text, and the bytes that a reader holds of them.
use Rattle.std.specs.Prelude.{◌≡◌, ◌≢◌, ℕ, ◌+◌, ◌<◌, ◌≤◌, List, ◌∷◌, ◌++◌, length, take, drop, All}
use Rattle.std.specs.Io.KnownBytes.{Consumes}
use Rattle.std.specs.declared.option.Option.{Option}

-- no byte is a line feed
abbrev pub IsLine : List ℕ → Type 0
IsLine line = All (λ byte. byte ≢ 10) line

-- a line of at most 8,192 bytes
pub record IsShortLine (line : List ℕ) : Type 0 where
  pub one : IsLine line
  pub short : length line ≤ 8192

-- the bytes begin with a line and its line feed
pub record HasLine (bytes : List ℕ) : Type 0 where
  pub line : List ℕ
  pub rest : List ℕ
  pub whole : bytes ≡ line ++ 10 ∷ rest

-- the bytes begin with more than 8,192 bytes that have no line feed
pub record IsTooLong (bytes : List ℕ) : Type 0 where
  pub front : List ℕ
  pub rest : List ℕ
  pub whole : bytes ≡ front ++ rest
  pub line : IsLine front
  pub long : 8192 < length front

-- nothing was handed out: what a source gave stands behind what was held
pub record Holds (left left' : Option (List ℕ)) (held held' : List ℕ) : Type 0 where
  pub input : List ℕ
  pub read : Consumes left left' input
  pub all : held ++ input ≡ held'

-- a reader's buffer: it holds so many bytes from the start, of which the first ones are known to have no line feed
pub record IsHeld (buffer : List ℕ) (start held clear : ℕ) : Type 0 where
  pub size : length buffer ≡ 65536
  pub inside : start + held ≤ length buffer
  pub seen : clear ≤ held
  pub clean : IsLine (take clear (drop start buffer))
