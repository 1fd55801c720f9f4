use Rattle.world_laws.specs.Runs.{WritersDiffer}
use Rattle.world_laws.proofs.RunLemmas.{differ, of_every}
use Rattle.world_laws.proofs.runs.writers_are_numbered_once.Goals as goal

pub returns : goal.returns
returns c = of_every WritersDiffer (differ c.writers_differ.ensures)
