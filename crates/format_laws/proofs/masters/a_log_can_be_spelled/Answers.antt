use Rattle.format_laws.proofs.MasterLemmas.{log_brought}
use Rattle.format_laws.proofs.masters.a_log_can_be_spelled.Goals as goal

pub returns : goal.returns
returns c = log_brought
