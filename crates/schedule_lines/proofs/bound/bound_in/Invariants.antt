use Rattle.std.proofs.Common.{◌≡◌, ◌++◌, length}
use Rattle.tm_data.specs.Vectors.{IsVector}
use Rattle.schedule_lines.specs.Lines.{AreEntries, entry_words}
use Rattle.schedule_lines.specs.Inside.{last_writer}
use Rattle.schedule_lines.proofs.bound.bound_in.Given as goal

-- the words that were read are the entries so far, which are a vector
abbrev pub invariant-loop-word : goal.invariant-loop-word
invariant-loop-word l = record {
  read : l.fn.words ≡ entry_words l.entries ++ l.words;
  last : l.above ≡ last_writer 0 l.entries;
  vector : IsVector l.entries;
  entries : AreEntries l.entries;
}

abbrev pub decreases-loop-word : goal.decreases-loop-word
decreases-loop-word l = length l.words
