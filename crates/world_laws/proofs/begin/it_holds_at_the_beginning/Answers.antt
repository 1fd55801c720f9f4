use Rattle.world_laws.proofs.BeginLemmas.{begin_holds}
use Rattle.world_laws.proofs.MessageLemmas.{TellLaws}
use Rattle.world_laws.proofs.LockMoves.{MoveLaws}
use Rattle.world_laws.proofs.begin.it_holds_at_the_beginning.Goals as goal

pub returns : goal.returns
returns c =
    let tells : TellLaws = record { stores = c.facts_of_messages_stay.ensures; of_locks = c.facts_of_messages_stay-2.ensures } in
    let moves : MoveLaws = record { tells = tells; store_still = c.going_stands_still.ensures; longer = c.longer_logs_have_it.ensures } in
    begin_holds (record {
      start_facts = c.facts_hold_at_the_start.ensures;
      start_of = c.a_start_is_of_the_logs.ensures;
      of_stores = record {
        of_store = record {
          step_facts = c.a_step_keeps_the_facts.ensures;
          start_facts = c.a_start_keeps_the_facts.ensures;
          step_of = c.a_step_is_of_the_logs.ensures;
          kept_of = c.kept_messages_are_of_the_logs.ensures;
          step_kept = c.a_step_is_kept.ensures;
          step_goes = c.a_step_goes.ensures;
          same_goes = c.a_start_goes.ensures;
          still = c.going_stands_still.ensures;
          goes_on = c.going_is_transitive.ensures;
        };
        tells = tells;
        lock_still = c.going_stands_still-2.ensures;
        is = c.sent_messages_say_what_is.ensures;
        sent = c.sent_messages_are_true.ensures;
      };
      of_locks = record {
        of_moves = moves;
        start_facts = c.facts_hold_at_the_start-2.ensures;
        run_facts = c.a_run_keeps_the_facts.ensures;
        step_after = c.a_step_does_what_is_told.ensures;
        step_goes = c.a_step_goes-2.ensures;
        still = c.going_stands_still-2.ensures;
        sent = c.sent_messages_are_true-2.ensures;
        tells = c.tells_change.ensures;
      };
      of_apart = record {
        still = record { of_moves = moves; lock_still = c.going_stands_still-2.ensures };
        page_step_sent = c.four_kinds_are_sent.ensures.step;
        page_tick_sent = c.four_kinds_are_sent.ensures.tick;
        page_wants_sent = c.four_kinds_are_sent.ensures.refused;
        replica_step_sent = c.questions_are_sent.ensures.step;
        replica_tick_sent = c.questions_are_sent.ensures.tick;
      };
    })
