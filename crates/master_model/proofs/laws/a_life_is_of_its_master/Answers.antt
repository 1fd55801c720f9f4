use Rattle.master_model.proofs.SaidLemmas.{named_by_command, named_by_message}
use Rattle.master_model.proofs.StepFacts.{asked_goes, message_goes}
use Rattle.master_model.proofs.laws.a_life_is_of_its_master.Goals as goal

pub returns-clause-start : goal.returns-clause-start
returns-clause-start c number boot stores = tt

pub returns-clause-message : goal.returns-clause-message
returns-clause-message c begun groups s m f brings named = named_by_message s m brings (message_goes begun groups s m f brings) named

pub returns-clause-command : goal.returns-clause-command
returns-clause-command c begun groups s session asked f named = named_by_command s session asked (asked_goes begun groups s session asked f) named
