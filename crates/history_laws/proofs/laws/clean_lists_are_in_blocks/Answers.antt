use Rattle.history_laws.proofs.CleanLemmas.{clean_blocks}
use Rattle.history_laws.proofs.laws.clean_lists_are_in_blocks.Goals as goal

pub returns : goal.returns
returns c = clean_blocks
