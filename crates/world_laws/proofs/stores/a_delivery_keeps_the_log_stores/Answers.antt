use Rattle.world_laws.proofs.StoreLemmas.{store_delivery_keeps}
use Rattle.world_laws.proofs.stores.a_delivery_keeps_the_log_stores.Goals as goal

pub returns : goal.returns
returns c = store_delivery_keeps (record {
  step_facts = c.a_step_keeps_the_facts.ensures;
  start_facts = c.a_start_keeps_the_facts.ensures;
  step_of = c.a_step_is_of_the_logs.ensures;
  kept_of = c.kept_messages_are_of_the_logs.ensures;
  step_kept = c.a_step_is_kept.ensures;
  step_goes = c.a_step_goes.ensures;
  same_goes = c.a_start_goes.ensures;
  still = c.going_stands_still.ensures;
  goes_on = c.going_is_transitive.ensures;
})
