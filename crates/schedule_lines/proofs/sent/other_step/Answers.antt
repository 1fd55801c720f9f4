use Rattle.schedule_lines.proofs.WordLemmas.{some_weaker, none_weaker}
use Rattle.schedule_lines.proofs.SentLemmas.{other_read, other_unread, no_verb}
use Rattle.schedule_lines.proofs.sent.other_step.Goals as goal

pub returns-in_default-verb_of-clause-none : goal.returns-in_default-verb_of-clause-none
returns-in_default-verb_of-clause-none c =
    no_verb c.args.node c.args.text.now c.new-words.result c.word.new.self c.in-Some.word.now c.new-words.ensures c.in-Some.ensures.some
    c.in_default-verb_of.ensures.none c.requires.kind

pub returns-clause-some : goal.returns-clause-some
returns-clause-some c =
    some_weaker c.in_ok-step.step (λ s command.
    other_read c.args.node c.args.text.now c.new-words.result c.word.new.self c.in-Some.word.now c.in-Some-verb_of.verb s c.new-words.ensures
    c.in-Some.ensures.some c.in-Some-verb_of.ensures.some command c.requires.kind c.requires.size) c.in_ok-step.ensures.some

pub returns-clause-none : goal.returns-clause-none
returns-clause-none c =
    none_weaker c.in_ok-step.step (λ none.
    other_unread c.args.node c.args.text.now c.new-words.result c.word.new.self c.in-Some.word.now c.in-Some-verb_of.verb c.new-words.ensures
    c.in-Some.ensures.some c.in-Some-verb_of.ensures.some none c.requires.kind) c.in_ok-step.ensures.none
