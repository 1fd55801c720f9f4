-- What a format's reader obeys: what is read was spelled so, and what is spelled so is read.
use Rattle.std.specs.Prelude.{◌≡◌, ℕ, ◌<◌, List, ◌++◌, slice_index, Ok}
use Rattle.wire_fields.specs.Reading.{Part}

-- Each number is a byte.
abbrev pub IsBytes : List ℕ → Type 0
IsBytes bytes = (i : ℕ) → slice_index bytes i < 256

-- From the front of the bytes a value was taken: they are its spelling and what is left, and it has one.
pub record Found {A : Type 0} (spell : A → List ℕ) (Fits : A → Type 0) (bytes : List ℕ) (x : A × List ℕ) : Type 0 where
  pub parts : bytes ≡ spell x.0 ++ x.1
  pub fits : Fits x.0
  pub left : IsBytes x.1

-- A reader takes the values that fit, by their spelling, and nothing else.
pub record IsField {A : Type 0} (read : List ℕ → Part A) (spell : A → List ℕ) (Fits : A → Type 0) : Type 0 where
  pub takes : (bytes : List ℕ) (x : A × List ℕ) → IsBytes bytes → read bytes ≡ Ok x → Found spell Fits bytes x
  pub again : (a : A) (rest : List ℕ) → Fits a → read (spell a ++ rest) ≡ Ok (a, rest)
