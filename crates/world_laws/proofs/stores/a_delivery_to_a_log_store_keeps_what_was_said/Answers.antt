use Rattle.world_laws.proofs.StoreMessages.{store_delivery_goes, store_delivery_holds, store_delivery_says}
use Rattle.world_laws.proofs.stores.a_delivery_to_a_log_store_keeps_what_was_said.Goals as goal

pub returns-clause-goes : goal.returns-clause-goes
returns-clause-goes c = store_delivery_goes (record {
  of_store = record {
    step_facts = c.a_step_keeps_the_facts.ensures;
    start_facts = c.a_start_keeps_the_facts.ensures;
    step_of = c.a_step_is_of_the_logs.ensures;
    kept_of = c.kept_messages_are_of_the_logs.ensures;
    step_kept = c.a_step_is_kept.ensures;
    step_goes = c.a_step_goes.ensures;
    same_goes = c.a_start_goes.ensures;
    still = c.going_stands_still.ensures;
    goes_on = c.going_is_transitive.ensures;
  };
  tells = record { stores = c.facts_of_messages_stay.ensures; of_locks = c.facts_of_messages_stay-2.ensures };
  lock_still = c.going_stands_still-2.ensures;
  is = c.sent_messages_say_what_is.ensures;
  sent = c.sent_messages_are_true.ensures;
})

pub returns-clause-says : goal.returns-clause-says
returns-clause-says c = store_delivery_says (record {
  of_store = record {
    step_facts = c.a_step_keeps_the_facts.ensures;
    start_facts = c.a_start_keeps_the_facts.ensures;
    step_of = c.a_step_is_of_the_logs.ensures;
    kept_of = c.kept_messages_are_of_the_logs.ensures;
    step_kept = c.a_step_is_kept.ensures;
    step_goes = c.a_step_goes.ensures;
    same_goes = c.a_start_goes.ensures;
    still = c.going_stands_still.ensures;
    goes_on = c.going_is_transitive.ensures;
  };
  tells = record { stores = c.facts_of_messages_stay.ensures; of_locks = c.facts_of_messages_stay-2.ensures };
  lock_still = c.going_stands_still-2.ensures;
  is = c.sent_messages_say_what_is.ensures;
  sent = c.sent_messages_are_true.ensures;
})

pub returns-clause-holds : goal.returns-clause-holds
returns-clause-holds c = store_delivery_holds (record {
  of_store = record {
    step_facts = c.a_step_keeps_the_facts.ensures;
    start_facts = c.a_start_keeps_the_facts.ensures;
    step_of = c.a_step_is_of_the_logs.ensures;
    kept_of = c.kept_messages_are_of_the_logs.ensures;
    step_kept = c.a_step_is_kept.ensures;
    step_goes = c.a_step_goes.ensures;
    same_goes = c.a_start_goes.ensures;
    still = c.going_stands_still.ensures;
    goes_on = c.going_is_transitive.ensures;
  };
  tells = record { stores = c.facts_of_messages_stay.ensures; of_locks = c.facts_of_messages_stay-2.ensures };
  lock_still = c.going_stands_still-2.ensures;
  is = c.sent_messages_say_what_is.ensures;
  sent = c.sent_messages_are_true.ensures;
})
