use Rattle.history_laws.proofs.CloseLemmas.{close_keeps}
use Rattle.history_laws.proofs.laws.closes_keep_the_premises.Goals as goal

pub returns : goal.returns
returns c = close_keeps
