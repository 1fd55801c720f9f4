use Rattle.world_laws.proofs.MasterDeliveries.{master_tick_holds}
use Rattle.world_laws.proofs.masters.a_tick_of_a_master_keeps_it.Goals as goal

pub returns : goal.returns
returns c = master_tick_holds (record {
  still = record {
    of_moves = record {
      tells = record { stores = c.facts_of_messages_stay.ensures; of_locks = c.facts_of_messages_stay-2.ensures };
      store_still = c.going_stands_still.ensures;
      longer = c.longer_logs_have_it.ensures;
    };
    lock_still = c.going_stands_still-2.ensures;
  };
  message = record {
    facts = c.a_message_keeps_the_facts.ensures;
    goes = c.a_message_goes.ensures;
    sends = c.a_message_sends_what_is.ensures;
    marks = c.marks_come_from_acknowledgements.ensures.message;
    begins = c.a_life_begins_as_it_was_registered.ensures.begins;
    epochs = c.epochs_come_with_pages.ensures.message;
    recoveries = c.recoveries_move_by_what_comes.ensures.message;
    stages = c.a_recovery_says_where_it_is.ensures.message;
    rosters = c.the_roster_is_one_that_came.ensures.message;
  };
  command = record {
    facts = c.a_command_keeps_the_facts.ensures;
    goes = c.a_command_goes.ensures;
    sends = c.a_command_sends_what_is.ensures;
    marks = c.marks_come_from_acknowledgements.ensures.command;
    waits = c.a_life_begins_as_it_was_registered.ensures.waits;
    epochs = c.epochs_come_with_pages.ensures.command;
    recoveries = c.recoveries_move_by_what_comes.ensures.command;
    stages = c.a_recovery_says_where_it_is.ensures.command;
    rosters = c.the_roster_is_one_that_came.ensures.command;
  };
  tick_sends = c.a_tick_sends_what_is.ensures.tick;
  tick_stages = c.a_recovery_says_where_it_is.ensures.tick;
})
