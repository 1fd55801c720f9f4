use Rattle.format_laws.proofs.MasterLemmas.{command_spelled, message_spelled}
use Rattle.format_laws.proofs.masters.what_it_keeps_can_be_spelled.Goals as goal

pub returns : goal.returns
returns c = record {
  start = λ number boot stores. tt;
  message = message_spelled c.recoveries_move_by_what_comes.ensures.message;
  command = command_spelled c.recoveries_move_by_what_comes.ensures.command;
}
