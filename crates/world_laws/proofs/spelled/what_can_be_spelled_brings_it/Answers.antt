use Rattle.world_laws.proofs.SpelledLemmas.{spelled_brings}
use Rattle.world_laws.proofs.spelled.what_can_be_spelled_brings_it.Goals as goal

pub returns : goal.returns
returns c = spelled_brings
