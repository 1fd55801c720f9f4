use Rattle.history_laws.proofs.CloseEvents.{closes_of_events}
use Rattle.history_laws.proofs.laws.closes_are_of_events.Goals as goal

pub returns : goal.returns
returns c = closes_of_events
