use Rattle.std.proofs.Common.{◌∙◌, ap, sym}
use Rattle.schedule_lines.specs.Parts.{parted}
use Rattle.schedule_lines.specs.Words.{words_of_rest}
use Rattle.schedule_lines.proofs.PartLemmas.{parted_first, parted_last}
use Rattle.schedule_lines.proofs.words.Words.word.Goals as goal

pub returns-in_default-clause-some : goal.returns-in_default-clause-some
returns-in_default-clause-some c =
    sym c.self.view_is ∙ ap words_of_rest c.in_ok-text.was ∙ parted_last c.in_ok-text.text.now c.in_default.ensures.none

pub returns-clause-some : goal.returns-clause-some
returns-clause-some c =
    sym c.self.view_is ∙ ap words_of_rest c.in_ok-text.was ∙ ap parted c.in-Some.ensures.found.0
    ∙ parted_first c.in-Some.word.now c.in-Some.rest.now c.in-Some.ensures.found.1
