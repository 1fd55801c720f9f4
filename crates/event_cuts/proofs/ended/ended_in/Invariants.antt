use Rattle.std.proofs.Common.{take}
use Rattle.key_model.specs.Cuts.{of_vector, within}
use Rattle.event_cuts.specs.Inside.{HasEnds}
use Rattle.event_cuts.proofs.ended.ended_in.Given as goal

abbrev pub invariant-loop-event : goal.invariant-loop-event
invariant-loop-event l = HasEnds l.ended (within (of_vector l.cut) (take l.event-index l.events))
