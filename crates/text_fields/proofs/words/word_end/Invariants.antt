use Rattle.std.proofs.Common.{◌≡◌, ℕ, ◌<◌, slice_index}
use Rattle.text_fields.proofs.words.word_end.Given as goal

-- no byte before this one is a blank
abbrev pub invariant-loop-i : goal.invariant-loop-i
invariant-loop-i l = (k : ℕ) → k < l.i → slice_index l.text k ≡ 32 → ⊥
