use Rattle.std.proofs.Common.{◌≡◌, ℕ, ◌<◌, slice_index}
use Rattle.schedule_lines.proofs.bound.colon_at.Given as goal

-- no byte before this one is a colon
abbrev pub invariant-loop-i : goal.invariant-loop-i
invariant-loop-i l = (k : ℕ) → k < l.i → slice_index l.word k ≡ 58 → ⊥
