-- What comes of a command, as contracts see it.
use Rattle.master_model.specs.State.{Answer as Given, Work}
use Rattle.master_work.specs.declared.answer.Answer.{Answer}

-- With the state after it.
abbrev pub answered : Work → Answer → Given
answered w a = record { work = w; reply = a.reply; groups = a.groups; messages = a.messages }
