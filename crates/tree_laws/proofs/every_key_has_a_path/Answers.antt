use Rattle.tree_laws.proofs.WayLemmas.{way}
use Rattle.tree_laws.proofs.every_key_has_a_path.Goals as goal

pub returns : goal.returns
returns c = way
