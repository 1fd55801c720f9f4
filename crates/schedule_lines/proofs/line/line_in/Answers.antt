use Rattle.std.proofs.Common.{◌∙◌, ◌∷◌, ℕ, List, ap}
use Rattle.schedule_lines.proofs.WordLemmas.{none_weaker}
use Rattle.schedule_lines.proofs.LineLemmas.{no_line_begins, no_line}
use Rattle.schedule_lines.proofs.line.line_in.Goals as goal

pub returns-in_default-verb_of-clause-none : goal.returns-in_default-verb_of-clause-none
returns-in_default-verb_of-clause-none c = λ l fit is.
    no_line_begins c.args.words c.in-Some.word.now c.word.new.self c.in-Some.ensures.some c.in_default-verb_of.ensures.none l is

pub returns-clause-none : goal.returns-clause-none
returns-clause-none c =
    none_weaker c.in_ok-line.line (λ none. λ l fit is.
    no_line l c.in-Some-verb_of.verb c.word.new.self none fit
    (is ∙ c.in-Some.ensures.some ∙ ap (λ (w : List ℕ). w ∷ c.word.new.self) c.in-Some-verb_of.ensures.some)) c.in_ok-line.ensures.none
