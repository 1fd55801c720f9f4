-- The calls of an object in memory, and which of them fail.
use Rattle.std.specs.Prelude.{ℕ, ◌+◌, ◌-◌, ◌^◌, min, List}

-- how many calls were made and how many failed, and the numbers of those that are to fail, counted from 1
pub record Calls : Type 0 where
  pub made : ℕ
  pub failed : ℕ
  pub fails : List ℕ

-- a count goes up by one, and stays at the end of its type
abbrev pub risen : ℕ → ℕ
risen count = min (count + 1) (2 ^ 64 - 1)

-- the number of the next call
abbrev pub next_call : Calls → ℕ
next_call calls = risen calls.made

-- the next call was made
abbrev pub passed : Calls → Calls
passed calls = record calls { made = next_call calls }

-- the next call was made and failed
abbrev pub failed : Calls → Calls
failed calls = record calls { made = next_call calls; failed = risen calls.failed }
