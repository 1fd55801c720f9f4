use Rattle.master_model.proofs.SaidLemmas.{messages_said}
use Rattle.master_model.proofs.laws.sent_messages_say_what_stays.Goals as goal

pub returns : goal.returns
returns c = messages_said
