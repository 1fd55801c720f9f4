use Rattle.world_laws.proofs.SpelledLemmas.{sent_spelled}
use Rattle.world_laws.proofs.spelled.what_is_sent_can_be_spelled.Goals as goal

pub returns : goal.returns
returns c = sent_spelled c.a_log_can_be_spelled.ensures
