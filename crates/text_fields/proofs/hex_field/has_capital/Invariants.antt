use Rattle.std.proofs.Common.{ℕ, ◌<◌, ◌≤◌, slice_index}
use Rattle.text_fields.proofs.hex_field.has_capital.Given as goal

-- no byte before this one is a capital letter
abbrev pub invariant-loop-byte : goal.invariant-loop-byte
invariant-loop-byte l = (k : ℕ) → k < l.byte-index → 65 ≤ slice_index l.word k → slice_index l.word k ≤ 90 → ⊥
