-- Counts of faults, and what an error says of them.
use Rattle.std.specs.Prelude.{ℕ, ◌+◌, ◌-◌, ◌^◌, ◌≤◌, ⊤, min, Result, OnErr, IfErr}
use Rattle.tm_ports.specs.declared.sink.SinkError.{SinkError}
use Rattle.tm_ports.specs.declared.sink.SinkError.TheVariants.{Failed, NoMemory}

-- a count of faults is greater than before, or stands at the end of its type, where it stays
abbrev pub Rose : ℕ → ℕ → Type 0
Rose before now = min (before + 1) (2 ^ 64 - 1) ≤ now

-- the count never falls, and a call that failed raised it
pub record HasCause {T E : Type 0} (before now : ℕ) (result : Result T E) : Type 0 where
  pub later : before ≤ now
  pub failed : OnErr result (Rose before now)

-- that a sink failed says that its count rose; its want of memory says nothing of faults
abbrev pub SinkCause : SinkError → ℕ → ℕ → Type 0
SinkCause Failed before now = Rose before now
SinkCause NoMemory before now = ⊤

-- the count never falls, and a sink that failed raised it
pub record HasSinkCause {T : Type 0} (before now : ℕ) (result : Result T SinkError) : Type 0 where
  pub later : before ≤ now
  pub cause : IfErr result (λ e. SinkCause e before now)
