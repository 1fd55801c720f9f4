use Rattle.std.proofs.Common.{ℕ, ◌<◌, ◌≤◌, ◌-◌, length}
use Rattle.page_model.specs.declared.link.Link.{Link}
use Rattle.version_chain.specs.Inside.{stamp_at}
use Rattle.version_chain.proofs.spot.place_of.Given as goal

abbrev pub invariant-loop-low : goal.invariant-loop-low
invariant-loop-low l =
    (l.low ≤ l.high)
    × (l.high ≤ length l.links)
    × ((k : ℕ) (d : Link) → k < l.low → stamp_at l.links k d < l.stamp.0)
    × ((k : ℕ) (d : Link) → l.high ≤ k → k < length l.links → l.stamp.0 < stamp_at l.links k d)

abbrev pub decreases-loop-low : goal.decreases-loop-low
decreases-loop-low l = l.high - l.low
