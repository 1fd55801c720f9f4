use Rattle.std.proofs.Common.{◌-◌, ◌<◌, ◌≤◌, ℕ, length, get_or}
use Rattle.lease_desk.proofs.key_set.place.Given as goal

abbrev pub invariant-loop-low : goal.invariant-loop-low
invariant-loop-low l =
    (l.low ≤ l.high) × (l.high ≤ length l.keys) × ((k : ℕ) → k < l.low → get_or l.keys k 0 < l.least) × ((k : ℕ) → l.high ≤ k → k < length l.keys → l.least ≤ get_or l.keys k 0)

abbrev pub decreases-loop-low : goal.decreases-loop-low
decreases-loop-low l = l.high - l.low
