use Rattle.history_laws.proofs.BlockLemmas.{blocks_clean}
use Rattle.history_laws.proofs.laws.blocks_are_clean.Goals as goal

pub returns : goal.returns
returns c = blocks_clean
