use Rattle.format_laws.proofs.MasterLemmas.{told_within}
use Rattle.format_laws.proofs.masters.what_is_told_is_within_the_scalar.Goals as goal

pub returns : goal.returns
returns c = told_within
