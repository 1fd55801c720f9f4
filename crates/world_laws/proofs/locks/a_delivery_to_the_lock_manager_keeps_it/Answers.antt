use Rattle.world_laws.proofs.LockSteps.{lock_delivery_holds}
use Rattle.world_laws.proofs.locks.a_delivery_to_the_lock_manager_keeps_it.Goals as goal

pub returns : goal.returns
returns c = lock_delivery_holds (record {
  of_moves = record {
    tells = record { stores = c.facts_of_messages_stay-2.ensures; of_locks = c.facts_of_messages_stay.ensures };
    store_still = c.going_stands_still-2.ensures;
    longer = c.longer_logs_have_it.ensures;
  };
  start_facts = c.facts_hold_at_the_start.ensures;
  run_facts = c.a_run_keeps_the_facts.ensures;
  step_after = c.a_step_does_what_is_told.ensures;
  step_goes = c.a_step_goes.ensures;
  still = c.going_stands_still.ensures;
  sent = c.sent_messages_are_true.ensures;
  tells = c.tells_change.ensures;
})
