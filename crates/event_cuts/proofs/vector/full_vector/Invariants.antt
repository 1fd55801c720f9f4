use Rattle.std.proofs.Common.{◌++◌}
use Rattle.event_cuts.specs.Counts.{AreCounts, vector_at}
use Rattle.event_cuts.specs.Inside.{counts_of}
use Rattle.event_cuts.proofs.vector.full_vector.Given as goal

abbrev pub invariant-loop-writer : goal.invariant-loop-writer
invariant-loop-writer l =
    (goal.iterator-loop-writer).can_next l.writer-iterator ×
    (goal.iterator-loop-writer).is_finite l.writer-iterator ×
    AreCounts (vector_at l.events l.j) (l.counts ++ counts_of l.writer-iterator)
