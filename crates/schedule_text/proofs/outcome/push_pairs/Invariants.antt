use Rattle.std.proofs.Common.{◌≡◌, ◌++◌, drop, string_bytes}
use Rattle.schedule_lines.specs.Lines.{behind}
use Rattle.schedule_text.specs.Outcomes.{pair_words}
use Rattle.schedule_text.proofs.outcome.push_pairs.Given as goal

-- what is there and what is to come is all that is asked
abbrev pub invariant-loop-pair : goal.invariant-loop-pair
invariant-loop-pair l = string_bytes l.text ++ behind (pair_words (drop l.pair-index l.pairs)) ≡ string_bytes l.fn.text ++ behind (pair_words l.pairs)
