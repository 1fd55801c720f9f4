use Rattle.std.proofs.Common.{length, ◌-◌, ◌≡◌, ◌++◌, ◌+◌, ◌≤◌, drop}
use Rattle.tm_data.specs.Vectors.{IsVector, joined}
use Rattle.tm_data.proofs.vector.merged.Given as goal

abbrev pub invariant-loop-i : goal.invariant-loop-i
invariant-loop-i l =
    (l.entries.items ++ joined (drop l.i l.left) (drop l.j l.right) ≡ joined l.left l.right)
    × IsVector (drop l.i l.left)
    × IsVector (drop l.j l.right)
    × (l.i ≤ length l.left)
    × (l.j ≤ length l.right)

abbrev pub decreases-loop-i : goal.decreases-loop-i
decreases-loop-i l = (length l.left - l.i) + (length l.right - l.j)
