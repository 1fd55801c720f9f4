-- Words of the crate's own functions.
use Rattle.std.specs.Prelude.{◌≡◌, ℕ, ◌≤◌, ◌<◌, ◌-◌, ◌^◌, List, Bool, true, false, Some, None, length, take_while, slice_set}
use Rattle.std.specs.FinMap as fin
use Rattle.std.specs.BTreeMap.{BTreeMap}
use Rattle.std.specs.declared.cmp.Ordering.{Ordering}
use Rattle.std.specs.declared.option.Option.{Option}
use Rattle.net_world.specs.World.{front}
use Rattle.net_world.specs.declared.error.WorldError.{WorldError}
use Rattle.net_world.specs.declared.error.WorldError.TheVariants.{Full, NoMemory}

-- Numbers that are used fit, and the durable groups are counted.
pub record IsSound (sent acks begun durable : ℕ) (acknowledged : List Bool) : Type 0 where
  pub sent_fit : sent ≤ 2 ^ 32 - 2
  pub acks_fit : acks ≤ 2 ^ 32 - 2
  pub begun_fit : begun ≤ 2 ^ 32 - 2
  pub counted : durable ≡ front acknowledged

-- Why a step is not done that would leave so many messages.
abbrev pub IsCause : ℕ → WorldError → Type 0
IsCause sent Full = 2 ^ 32 - 2 < sent
IsCause sent NoMemory = Unit {0}
