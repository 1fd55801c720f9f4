use Rattle.world_laws.proofs.RunLemmas.{run_keeps}
use Rattle.world_laws.proofs.runs.a_run_keeps_it.Goals as goal

pub returns : goal.returns
returns c = run_keeps (record {
  still = record {
    of_moves = record {
      tells = record { stores = c.facts_of_messages_stay.ensures; of_locks = c.facts_of_messages_stay-2.ensures };
      store_still = c.going_stands_still.ensures;
      longer = c.longer_logs_have_it.ensures;
    };
    lock_still = c.going_stands_still-2.ensures;
  };
  stores = c.going_is_transitive.ensures;
  of_locks = c.going_is_transitive-2.ensures;
}) c.a_step_keeps_it.ensures
