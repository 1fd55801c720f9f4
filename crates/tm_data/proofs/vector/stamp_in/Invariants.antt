use Rattle.std.proofs.Common.{◌≡◌, length}
use Rattle.tm_data.specs.Vectors.{IsVector, stamp_of}
use Rattle.tm_data.proofs.vector.stamp_in.Given as goal

abbrev pub invariant-loop-rest : goal.invariant-loop-rest
invariant-loop-rest l = (stamp_of l.rest l.writer.0 ≡ stamp_of l.entries l.writer.0) × IsVector l.rest

abbrev pub decreases-loop-rest : goal.decreases-loop-rest
decreases-loop-rest l = length l.rest
