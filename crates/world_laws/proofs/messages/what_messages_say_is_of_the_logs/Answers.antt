use Rattle.world_laws.proofs.MessageLemmas.{sayings_bring}
use Rattle.world_laws.proofs.messages.what_messages_say_is_of_the_logs.Goals as goal

pub returns : goal.returns
returns c = sayings_bring
