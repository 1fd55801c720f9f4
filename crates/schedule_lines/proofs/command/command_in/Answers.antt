use Rattle.schedule_lines.proofs.WordLemmas.{no_command_begins}
use Rattle.schedule_lines.proofs.command.command_in.Goals as goal

pub returns-in_default-command_verb_of-clause-none : goal.returns-in_default-command_verb_of-clause-none
returns-in_default-command_verb_of-clause-none c = λ any fit is.
    no_command_begins c.args.words c.in-Some.word.now c.word.new.self c.in-Some.ensures.some c.in_default-command_verb_of.ensures.none any is
