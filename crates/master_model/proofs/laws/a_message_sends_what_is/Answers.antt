use Rattle.master_model.proofs.NoteTold.{sent_by_message}
use Rattle.master_model.proofs.laws.a_message_sends_what_is.Goals as goal

pub returns : goal.returns
returns c = sent_by_message
