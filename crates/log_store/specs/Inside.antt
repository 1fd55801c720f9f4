-- What the log store's own functions speak of.
use Rattle.std.specs.Prelude.{ℕ, Bool}
use Rattle.store_model.specs.LogState.{Log}

-- The log with another mark, and sealed or not.
abbrev pub set_to : Log → ℕ → Bool → Log
set_to log mark is_sealed = record log { mark = mark; is_sealed = is_sealed }
