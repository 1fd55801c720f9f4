use Rattle.world_laws.proofs.RunLemmas.{step_holds}
use Rattle.world_laws.proofs.runs.a_step_keeps_it.Goals as goal

pub returns : goal.returns
returns c = step_holds (record {
  still = record {
    of_moves = record {
      tells = record { stores = c.facts_of_messages_stay.ensures; of_locks = c.facts_of_messages_stay-2.ensures };
      store_still = c.going_stands_still.ensures;
      longer = c.longer_logs_have_it.ensures;
    };
    lock_still = c.going_stands_still-2.ensures;
  };
  apart_delivery = c.a_delivery_to_a_page_store_or_replica_keeps_it.ensures;
  apart_step = c.a_step_apart_keeps_it.ensures;
  lock_delivery = c.a_delivery_to_the_lock_manager_keeps_it.ensures;
  lock_step = c.the_lock_manager_keeps_it_over_stops.ensures;
  store_delivery = c.a_delivery_to_a_log_store_keeps_what_was_said.ensures.holds;
  store_step = c.a_log_store_keeps_it_over_stops.ensures;
  master_delivery = c.a_delivery_to_a_master_keeps_it.ensures;
  command = c.a_command_keeps_it.ensures;
  master_tick = c.a_tick_of_a_master_keeps_it.ensures;
  spells = c.each_step_keeps_it_spelled.ensures;
  sent = c.what_is_sent_can_be_spelled.ensures;
  brings = c.what_can_be_spelled_brings_it.ensures;
})
