use Rattle.std.proofs.Common.{◌≡◌, ◌≤◌, length, take}
use Rattle.std.specs.Prelude.{reverse}
use Rattle.page_model.specs.Versions.{last_covered}
use Rattle.version_chain.proofs.spot.last_covered.Given as goal

abbrev pub invariant-loop-at : goal.invariant-loop-at
invariant-loop-at l = (l.at ≤ length l.links) × (last_covered (reverse (take l.at l.links)) l.cut ≡ last_covered (reverse l.links) l.cut)

abbrev pub decreases-loop-at : goal.decreases-loop-at
decreases-loop-at l = l.at
