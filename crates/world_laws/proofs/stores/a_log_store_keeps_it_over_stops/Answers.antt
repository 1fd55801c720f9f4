use Rattle.world_laws.proofs.StoreSteps.{store_step_holds}
use Rattle.world_laws.proofs.stores.a_log_store_keeps_it_over_stops.Goals as goal

pub returns : goal.returns
returns c = store_step_holds (record {
  of_store = record {
    step_facts = c.a_step_keeps_the_facts.ensures;
    start_facts = c.a_start_keeps_the_facts.ensures;
    step_of = c.a_step_is_of_the_logs.ensures;
    kept_of = c.kept_messages_are_of_the_logs.ensures;
    step_kept = c.a_step_is_kept.ensures;
    step_goes = c.a_step_goes.ensures;
    same_goes = c.a_start_goes.ensures;
    still = c.going_stands_still.ensures;
    goes_on = c.going_is_transitive.ensures;
  };
  tells = record { stores = c.facts_of_messages_stay.ensures; of_locks = c.facts_of_messages_stay-2.ensures };
  lock_still = c.going_stands_still-2.ensures;
  is = c.sent_messages_say_what_is.ensures;
  sent = c.sent_messages_are_true.ensures;
}) c.messages_of_ticks_are_true.ensures
