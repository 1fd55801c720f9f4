use Rattle.world_laws.proofs.MessageLemmas.{sayings_stay}
use Rattle.world_laws.proofs.messages.what_messages_say_stays_true.Goals as goal

pub returns : goal.returns
returns c = sayings_stay (record { stores = c.facts_of_messages_stay.ensures; of_locks = c.facts_of_messages_stay-2.ensures })
