use Rattle.world_laws.proofs.ApartLemmas.{apart_delivery_holds}
use Rattle.world_laws.proofs.apart.a_delivery_to_a_page_store_or_replica_keeps_it.Goals as goal

pub returns : goal.returns
returns c = apart_delivery_holds (record {
  still = record {
    of_moves = record {
      tells = record { stores = c.facts_of_messages_stay.ensures; of_locks = c.facts_of_messages_stay-2.ensures };
      store_still = c.going_stands_still.ensures;
      longer = c.longer_logs_have_it.ensures;
    };
    lock_still = c.going_stands_still-2.ensures;
  };
  page_step_sent = c.four_kinds_are_sent.ensures.step;
  page_tick_sent = c.four_kinds_are_sent.ensures.tick;
  page_wants_sent = c.four_kinds_are_sent.ensures.refused;
  replica_step_sent = c.questions_are_sent.ensures.step;
  replica_tick_sent = c.questions_are_sent.ensures.tick;
})
