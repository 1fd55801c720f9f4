use Rattle.std.proofs.Common.{◌≡◌, ◌+◌, ◌++◌, drop, string_bytes}
use Rattle.taurus.specs.Text.{messages_text}
use Rattle.taurus.proofs.text.push_messages.Given as goal

-- what is there and what is to come is all that is asked
abbrev pub invariant-loop-i : goal.invariant-loop-i
invariant-loop-i l = string_bytes l.text ++ messages_text (l.i + 1) (drop l.i l.messages) ≡ string_bytes l.fn.text ++ messages_text (l.from + 1) (drop l.from l.messages)
