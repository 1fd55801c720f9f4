-- What an error of a journal says of the file, and of the disk's faults.
use Rattle.std.specs.Prelude.{◌≡◌, ℕ, ◌≤◌, ⊤, List, Result, IfErr}
use Rattle.std.specs.declared.result.Result.TheVariants.{Err}
use Rattle.tm_ports.specs.Faults.{Rose}
use Rattle.journal_core.specs.declared.error.OpenError.{OpenError}
use Rattle.journal_core.specs.declared.error.OpenError.TheVariants as open_error
use Rattle.journal_core.specs.declared.error.AppendError.{AppendError}
use Rattle.journal_core.specs.declared.error.AppendError.TheVariants as append_error

-- damage is where the reading of the file has it
abbrev pub Says : OpenError → Result (List (List ℕ)) ℕ → Type 0
Says open_error.DiskFault reading = ⊤
Says (open_error.Damaged at) reading = reading ≡ Err at
Says open_error.NoMemory reading = ⊤

abbrev pub OpenCause : OpenError → ℕ → ℕ → Type 0
OpenCause open_error.DiskFault before now = Rose before now
OpenCause (open_error.Damaged at) before now = ⊤
OpenCause open_error.NoMemory before now = ⊤

-- the count of faults never falls, and a fault of the disk raised it
pub record HasOpenCause {T : Type 0} (before now : ℕ) (result : Result T OpenError) : Type 0 where
  pub later : before ≤ now
  pub cause : IfErr result (λ e. OpenCause e before now)

abbrev pub AppendCause : AppendError → ℕ → ℕ → Type 0
AppendCause append_error.DiskFault before now = Rose before now
AppendCause append_error.Closed before now = ⊤

pub record HasAppendCause {T : Type 0} (before now : ℕ) (result : Result T AppendError) : Type 0 where
  pub later : before ≤ now
  pub cause : IfErr result (λ e. AppendCause e before now)
