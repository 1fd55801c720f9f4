use Rattle.master_model.proofs.ToldLemmas.{sent_by_command}
use Rattle.master_model.proofs.laws.a_command_sends_what_is.Goals as goal

pub returns : goal.returns
returns c = sent_by_command
