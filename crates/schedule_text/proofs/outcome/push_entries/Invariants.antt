use Rattle.std.proofs.Common.{◌≡◌, ◌++◌, drop, string_bytes}
use Rattle.schedule_lines.specs.Lines.{behind, entry_words}
use Rattle.schedule_text.proofs.outcome.push_entries.Given as goal

-- what is there and what is to come is all that is asked
abbrev pub invariant-loop-entry : goal.invariant-loop-entry
invariant-loop-entry l = string_bytes l.text ++ behind (entry_words (drop l.entry-index l.entries)) ≡ string_bytes l.fn.text ++ behind (entry_words l.entries)
