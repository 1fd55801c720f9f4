-- The words that a reader of words has left.
use Rattle.std.specs.Prelude.{ℕ, List, [], Some, None}
use Rattle.std.specs.declared.option.Option.{Option}
use Rattle.std.specs.Borrow.{Bor}
use Rattle.schedule_lines.specs.Parts.{parted}
use Rattle.schedule_lines.specs.declared.words.Words.TheInside.{Inside}

abbrev pub words_of_rest : Option (Bor (List ℕ)) → List (List ℕ)
words_of_rest None = []
words_of_rest (Some text) = parted text.now

abbrev pub words_left : Inside → List (List ℕ)
words_left w = words_of_rest w.rest
