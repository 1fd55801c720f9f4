use Rattle.format_laws.proofs.MasterLemmas.{sent_spelled}
use Rattle.format_laws.proofs.masters.what_it_sends_can_be_spelled.Goals as goal

pub returns : goal.returns
returns c = sent_spelled
