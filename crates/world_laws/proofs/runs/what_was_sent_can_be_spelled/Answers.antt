use Rattle.world_laws.specs.Runs.{SentAreSpelled}
use Rattle.world_laws.proofs.RunLemmas.{all_spelled, so_always}
use Rattle.world_laws.proofs.runs.what_was_sent_can_be_spelled.Goals as goal

pub returns : goal.returns
returns c = so_always SentAreSpelled (all_spelled c.what_is_sent_can_be_spelled.ensures) c.it_always_holds.ensures
