use Rattle.history_laws.proofs.CoverLemmas.{covers_least}
use Rattle.history_laws.proofs.laws.covers_are_least.Goals as goal

pub returns : goal.returns
returns c = covers_least
