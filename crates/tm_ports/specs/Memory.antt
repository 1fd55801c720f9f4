-- What sources and sinks in memory are seen as.
use Rattle.std.specs.Prelude.{ℕ, List}
use Rattle.tm_ports.specs.Calls.{Calls}

-- the bytes that a source has left, and its calls
pub record MemoryInput : Type 0 where
  pub left : List ℕ
  pub calls : Calls

-- the bytes that a sink took, and its calls
pub record MemoryOutput : Type 0 where
  pub taken : List ℕ
  pub calls : Calls
