use Rattle.std.proofs.Common.{◌++◌}
use Rattle.key_model.specs.Cuts.{of_vector}
use Rattle.event_cuts.specs.Lists.{IsMapAt}
use Rattle.event_cuts.specs.Inside.{entries_of}
use Rattle.event_cuts.proofs.lists.map_at.Given as goal

abbrev pub invariant-loop-key : goal.invariant-loop-key
invariant-loop-key l =
    (goal.iterator-loop-key).can_next l.key-iterator ×
    (goal.iterator-loop-key).is_finite l.key-iterator ×
    IsMapAt l.events (of_vector l.cut) (l.entries ++ entries_of l.ended l.key-iterator)
