use Rattle.std.proofs.Common.{◌≤◌, length, map}
use Rattle.std.specs.Prelude.{reverse}
use Rattle.page_model.specs.Versions.{version}
use Rattle.version_chain.specs.Inside.{Walking}
use Rattle.version_chain.proofs.version.walk.Given as goal

abbrev pub invariant-loop-rest : goal.invariant-loop-rest
invariant-loop-rest l =
    (length l.rest ≤ length l.links)
    × Walking l.fn.page (reverse l.links) (version l.fn.page (reverse l.links) l.fn.stamp.0) l.fn.stamp.0 (map (λ link. link.now) l.path.items) (reverse l.rest) l.next.0

abbrev pub decreases-loop-rest : goal.decreases-loop-rest
decreases-loop-rest l = l.next.0
