use Rattle.schedule_lines.proofs.SpellingLemmas.{lines_differ, commands_differ}
use Rattle.schedule_lines.proofs.laws.texts_differ.Goals as goal

pub returns-clause-lines : goal.returns-clause-lines
returns-clause-lines c = lines_differ

pub returns-clause-commands : goal.returns-clause-commands
returns-clause-commands c = commands_differ
