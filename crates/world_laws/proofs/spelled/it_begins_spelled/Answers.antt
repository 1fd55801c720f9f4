use Rattle.world_laws.proofs.SpelledSteps.{begin_spells}
use Rattle.world_laws.proofs.spelled.it_begins_spelled.Goals as goal

pub returns : goal.returns
returns c = begin_spells c.a_log_store_sends_what_can_be_spelled.ensures.start
