use Rattle.std.proofs.Common.{◌≡◌, Some, refl}
use Rattle.schedule_lines.specs.Parts.{parted}
use Rattle.schedule_lines.specs.Words.{words_of_rest}
use Rattle.schedule_lines.proofs.PartLemmas.{parted_some}
use Rattle.schedule_lines.proofs.words.Words.end.Goals as goal

pub returns-in-Some-clause-none : goal.returns-in-Some-clause-none
returns-in-Some-clause-none c = λ none.
    let here : words_of_rest (Some c.in-Some.field-0) ≡ parted c.in-Some.field-0.now = refl in
    parted_some c.in-Some.field-0.now cc
