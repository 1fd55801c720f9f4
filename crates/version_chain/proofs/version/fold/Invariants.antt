use Rattle.std.proofs.Common.{map, vec_len, Ok}
use Rattle.version_chain.specs.Inside.{effects, Folding}
use Rattle.version_chain.proofs.version.fold.Given as goal

abbrev pub invariant-loop-link : goal.invariant-loop-link
invariant-loop-link l = Folding l.fn.page (effects (map (λ link. link.now) l.fn.path.items) (Ok l.fn.base)) l.fn.stamp.0 (map (λ link. link.now) l.path.items) l.image

abbrev pub decreases-loop-link : goal.decreases-loop-link
decreases-loop-link l = vec_len l.path
