use Rattle.format_laws.proofs.LockLemmas.{run_spelled, start_spelled, step_spelled}
use Rattle.format_laws.proofs.locks.what_it_keeps_can_be_spelled.Goals as goal

pub returns : goal.returns
returns c = record {
  start = start_spelled;
  step = step_spelled c.a_step_does_what_is_told.ensures;
  run = run_spelled c.a_step_does_what_is_told.ensures c.a_step_keeps_the_facts.ensures;
}
