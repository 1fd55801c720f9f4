use Rattle.master_model.proofs.LightLemmas.{command_light, message_light}
use Rattle.master_model.proofs.laws.no_log_has_a_durable_group.Goals as goal

pub returns-clause-start : goal.returns-clause-start
returns-clause-start c number boot stores = tt

pub returns-clause-message : goal.returns-clause-message
returns-clause-message c = message_light

pub returns-clause-command : goal.returns-clause-command
returns-clause-command c = command_light
