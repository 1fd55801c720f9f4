-- What a journal knows of its file.
use Rattle.std.specs.Prelude.{◌≡◌, ◌≢◌, ℕ, ◌+◌, ◌<◌, List, ◌∷◌, ◌++◌, length, get_or, take, Result}
use Rattle.std.specs.declared.result.Result.TheVariants.{Ok, Err}
use Rattle.journal_core.specs.Reading.{reading, opened, bodies_in, kept}

abbrev pub with_front : List (List ℕ) → Result (List (List ℕ)) ℕ → Result (List (List ℕ)) ℕ
with_front bodies (Ok more) = Ok (bodies ++ more)
with_front bodies (Err at) = Err at

-- these bytes are whole records of these bodies: a file that begins with them is read on behind them
abbrev pub AreRecords : List ℕ → List (List ℕ) → Type 0
AreRecords front bodies = (gate : ℕ) (rest : List ℕ) → reading 0 0 (front ++ gate ∷ rest) ≡ with_front bodies (reading (length front) 0 (gate ∷ rest))

-- behind its records the file has the end gate, which stands at this offset, and nothing more
pub record IsAtRest (file : List ℕ) (end : ℕ) : Type 0 where
  pub size : length file ≡ end + 1
  pub shut : get_or file end 0 ≢ 1
  pub front : AreRecords (take end file) (bodies_in file)

-- the whole records of a file, and the offset of its end gate
pub record IsParsed (file : List ℕ) (bodies : List (List ℕ)) (end : ℕ) : Type 0 where
  pub inside : end < length file
  pub shut : get_or file end 0 ≢ 1
  pub front : AreRecords (take end file) bodies

-- a file was opened: it has the records of the old one, its end gate and nothing behind it
pub record IsLoaded (old new : List ℕ) (bodies : List (List ℕ)) (end : ℕ) : Type 0 where
  pub opens : opened old ≡ Ok bodies
  pub file : new ≡ kept old end
  pub same : opened new ≡ Ok bodies
  pub rest : IsAtRest new end
