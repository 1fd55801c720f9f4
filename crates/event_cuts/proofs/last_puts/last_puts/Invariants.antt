use Rattle.std.proofs.Common.{◌≤◌, length, take}
use Rattle.key_model.specs.Cuts.{of_vector, within, puts_on, row_at}
use Rattle.event_cuts.specs.Inside.{Finds}
use Rattle.event_cuts.proofs.last_puts.last_puts.Given as goal

abbrev pub invariant-loop-at : goal.invariant-loop-at
invariant-loop-at l =
    (l.at ≤ length l.items) × Finds l.puts (λ key. puts_on key (within (of_vector l.cut) (take l.at l.events))) (row_at l.events (of_vector l.cut))

abbrev pub decreases-loop-at : goal.decreases-loop-at
decreases-loop-at l = l.at
