use Rattle.world_laws.proofs.SpelledSteps.{step_spells}
use Rattle.world_laws.proofs.spelled.each_step_keeps_it_spelled.Goals as goal

pub returns : goal.returns
returns c = step_spells (record {
  of_locks = record {
    start_facts = c.facts_hold_at_the_start.ensures;
    run_facts = c.a_run_keeps_the_facts.ensures;
    start = c.what_it_keeps_can_be_spelled.ensures.start;
    run = c.what_it_keeps_can_be_spelled.ensures.run;
    sends = c.what_it_sends_can_be_spelled.ensures;
  };
  of_masters = record {
    log = c.a_log_can_be_spelled.ensures;
    facts = c.a_message_keeps_the_facts.ensures;
    facts_commanded = c.a_command_keeps_the_facts.ensures;
    says = c.a_message_sends_what_is.ensures;
    says_commanded = c.a_command_sends_what_is.ensures;
    says_ticked = c.a_tick_sends_what_is.ensures.tick;
    stages = c.a_recovery_says_where_it_is.ensures.message;
    stages_commanded = c.a_recovery_says_where_it_is.ensures.command;
    stages_ticked = c.a_recovery_says_where_it_is.ensures.tick;
    keeps = c.what_it_keeps_can_be_spelled-2.ensures.message;
    keeps_commanded = c.what_it_keeps_can_be_spelled-2.ensures.command;
    sends = c.what_it_sends_can_be_spelled-2.ensures;
  };
  of_stores = record {
    of_log_step = c.a_log_store_sends_what_can_be_spelled.ensures.step;
    of_log_tick = c.a_log_store_sends_what_can_be_spelled.ensures.tick;
    of_log_start = c.a_log_store_sends_what_can_be_spelled.ensures.start;
    of_page_step = c.a_page_store_sends_what_can_be_spelled.ensures.step;
    of_page_tick = c.a_page_store_sends_what_can_be_spelled.ensures.tick;
    of_page_refused = c.a_page_store_sends_what_can_be_spelled.ensures.refused;
    of_replica_step = c.a_replica_sends_what_can_be_spelled.ensures.step;
    of_replica_tick = c.a_replica_sends_what_can_be_spelled.ensures.tick;
  };
})
