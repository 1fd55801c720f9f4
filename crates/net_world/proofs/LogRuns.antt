-- The logs in every run of the world.
use Rattle.std.proofs.Common.{◌≡◌, ◌∙◌, ℕ, ◌+◌, ◌-◌, ◌≤◌, ◌<◌, List, [], ◌∷◌, ◌++◌, Bool, true, false, Some, None, refl, sym, ap, subst, arith, length, length-append, nat_le, nat_lt, cond, ◌||◌, ◌&&◌, set}
use Rattle.std.specs.Prelude.{slice_get, ◌==◌}
use Rattle.std.proofs.lemmas.Bool.Decides.{nat_tests}
use Rattle.std.proofs.lemmas.Option.{slice_get_within}
use Rattle.std.specs.FinMap as fin
use Rattle.std.specs.declared.option.Option.{Option}
use Rattle.tm_data.specs.declared.transaction.Txn.{Txn}
use Rattle.tm_base.specs.declared.reply.Reply.{Reply}
use Rattle.tm_base.specs.declared.reply.Reply.TheVariants as reply
use Rattle.key_model.specs.Steps.{row_of}
use Rattle.net_world.specs.declared.message.PlainGroup.{PlainGroup}
use Rattle.net_world.specs.declared.message.PlainGroup.TheVariants as group
use Rattle.net_world.specs.declared.message.PlainMessage.{PlainMessage}
use Rattle.net_world.specs.declared.message.PlainMessage.TheVariants.{Append, Ack}
use Rattle.net_world.specs.declared.session.PlainSession.{PlainSession}
use Rattle.net_world.specs.declared.step.PlainStep.{PlainStep}
use Rattle.net_world.specs.declared.step.PlainStep.TheVariants.{Begin, Get, Put, Commit, Deliver}
use Rattle.net_world.specs.Log.{seq_of, owner_of}
use Rattle.net_world.specs.Runs.{run}
use Rattle.net_world.specs.World.{State, first, durable, is_spent, begin, begin_new, refused_name, refused_row, put, put_in, put_named, put_new, commit, commit_in, end_new, wait_for, next_group, deliver, append, append_by, stepped}
use Rattle.net_world.proofs.ListLemmas.{got_last}
use Rattle.net_world.proofs.LogLemmas.{log_of, log_append, log_ack, LogFacts, found, one_logged, one_stored, told_again, one_acknowledged}
use Rattle.net_world.proofs.TestLemmas.{le_from}

-- The end of a transaction is the last group of the log.
pub record IsLast (sent : List PlainMessage) (t : Txn) (q : ℕ) : Type 0 where
  pub least : 1 ≤ q
  pub ended : slice_get (log_of sent) (q - 1) ≡ Some (group.End q t)
  pub whole : length (log_of sent) ≡ q

abbrev pub EndLogged : List PlainMessage → Txn → Option ℕ → Type 0
EndLogged sent t None = Unit {0}
EndLogged sent t (Some q) = IsLast sent t q

abbrev pub SessionLogged : List PlainMessage → Option PlainSession → Type 0
SessionLogged sent None = Unit {0}
SessionLogged sent (Some s) = EndLogged sent s.txn s.ending

pub record Logged (w : State) : Type 0 where
  pub facts : LogFacts w.sent w.stored w.acks
  pub session : SessionLogged w.sent w.session

-- another message than a group leaves the log
acked_last : (sent : List PlainMessage) (q : ℕ) (o : Option PlainSession) → SessionLogged sent o → SessionLogged (sent ++ Ack q ∷ []) o
acked_last sent q None h = tt
acked_last sent q (Some s) h = by_ending s.ending h
  where
    by_ending : (e : Option ℕ) → EndLogged sent s.txn e → EndLogged (sent ++ Ack q ∷ []) s.txn e
    by_ending None h = tt
    by_ending (Some p) h = record {
      least = h.least;
      ended = ap (λ (l : List PlainGroup). slice_get l (p - 1)) (log_ack sent q) ∙ h.ended;
      whole = ap (λ (l : List PlainGroup). length l) (log_ack sent q) ∙ h.whole;
    }

-- the session's transaction is open: nothing is said of its end
opened_last : (sent : List PlainMessage) (o : Option PlainSession) (s : PlainSession) → o ≡ Some s → s.ending ≡ None → SessionLogged sent o
opened_last sent o s e is = subst (λ (o : Option PlainSession). SessionLogged sent o) (sym e) (subst (λ (q : Option ℕ). EndLogged sent s.txn q) (sym is) tt)

module _ (w : State) (log : Logged w) where
  same : Logged w
  same = log

  f : LogFacts w.sent w.stored w.acks
  f = log.facts

  begin_logged : (o : Option PlainSession) → w.session ≡ o → Logged (begin w o).0
  begin_logged (Some s) e = record { facts = log.facts; session = log.session }
  begin_logged None e = by_room (is_spent w.begun)
    where
      by_room : (b : Bool) → Logged (begin_new w b).0
      by_room true = record { facts = log.facts; session = log.session }
      by_room false = record { facts = log.facts; session = tt }

  put_logged : (table : ℕ) (key value : List ℕ) (o : Option PlainSession) → w.session ≡ o → Logged (put w table key value o).0
  put_logged table key value None e = record { facts = log.facts; session = log.session }
  put_logged table key value (Some s) e = by_ending s.ending refl
    where
      by_room : s.ending ≡ None → (b : Bool) → Logged (put_new w table key value s b).0
      by_room is true = record { facts = log.facts; session = log.session }
      by_room is false = record {
        facts = one_logged w.sent w.stored w.acks log.facts (group.Row (next_group w) table key value s.txn) refl;
        session = opened_last (w.sent ++ Append (group.Row (next_group w) table key value s.txn) ∷ []) w.session s e is;
      }

      by_name : s.ending ≡ None → (n : Option Reply) → Logged (put_named w table key value s n).0
      by_name is (Some r) = record { facts = log.facts; session = log.session }
      by_name is None = by_room is (is_spent (length w.acks))

      by_ending : (q : Option ℕ) → s.ending ≡ q → Logged (put_in w table key value s q).0
      by_ending (Some q) is = record { facts = log.facts; session = log.session }
      by_ending None is = by_name is (refused_row value (refused_name table key))

  commit_logged : (o : Option PlainSession) → w.session ≡ o → Logged (commit w o).0
  commit_logged None e = record { facts = log.facts; session = log.session }
  commit_logged (Some s) e = by_ending s.ending
    where
      g : PlainGroup
      g = group.End (next_group w) s.txn

      by_room : (b : Bool) → Logged (end_new w s b).0
      by_room true = record { facts = log.facts; session = log.session }
      by_room false =
          let n = next_group w in
          let count = log.facts.counted in
          let place : n - 1 ≡ length (log_of w.sent) = omega arith in
          record {
            facts = one_logged w.sent w.stored w.acks log.facts (group.End (next_group w) s.txn) refl;
            session = record {
              least = omega arith;
              ended = ap (λ (l : List PlainGroup). slice_get l (next_group w - 1)) (log_append w.sent (group.End (next_group w) s.txn)) ∙ got_last (log_of w.sent) (group.End (next_group w) s.txn) (next_group w - 1) place;
              whole = omega (arith, ap (λ (l : List PlainGroup). length l) (log_append w.sent (group.End (next_group w) s.txn)), length-append (log_of w.sent) (group.End (next_group w) s.txn ∷ []), log.facts.counted);
            };
          }

      by_durable : (q : ℕ) (b : Bool) → Logged (wait_for w s q b).0
      by_durable q true = record { facts = log.facts; session = tt }
      by_durable q false = record { facts = log.facts; session = log.session }

      by_ending : (q : Option ℕ) → Logged (commit_in w s q).0
      by_ending None = by_room (is_spent (length w.acks))
      by_ending (Some q) = by_durable q (nat_le q (durable w))

  deliver_logged : (k : ℕ) (m : Option PlainMessage) → slice_get w.sent k ≡ m → Logged (deliver w m)
  deliver_logged k None e = log
  deliver_logged k (Some (Append g)) e = by_tests (seq_of g == length w.stored + 1) (nat_le (seq_of g) (length w.stored)) refl refl
    where
      by_tests : (a b : Bool) → (seq_of g == length w.stored + 1) ≡ a → nat_le (seq_of g) (length w.stored) ≡ b → Logged (append_by w g a b)
      by_tests true b next held = record {
        facts = one_stored w.sent w.stored w.acks log.facts k g e (grind (arith, nat_tests));
        session = acked_last w.sent (seq_of g) w.session log.session;
      }
      by_tests false true next held = record {
        facts = told_again w.sent w.stored w.acks log.facts (seq_of g) (found w.sent w.stored w.acks log.facts k g e).1 (le_from (seq_of g) (length w.stored) held);
        session = acked_last w.sent (seq_of g) w.session log.session;
      }
      by_tests false false next held = log
  deliver_logged k (Some (Ack q)) e =
      let was = log.facts.told k q e in
      record { facts = one_acknowledged w.sent w.stored w.acks log.facts q was.0 was.1; session = log.session }

  pub step_logged : (s : PlainStep) → Logged (stepped w s).0
  step_logged Begin = begin_logged w.session refl
  step_logged (Get table key) = record { facts = log.facts; session = log.session }
  step_logged (Put table key value) = put_logged table key value w.session refl
  step_logged Commit = commit_logged w.session refl
  step_logged (Deliver n) = deliver_logged (n - 1) (slice_get w.sent (n - 1)) refl

pub run_logged : (w : State) (steps : List PlainStep) → Logged w → Logged (run w steps)
run_logged w [] log = log
run_logged w (s ∷ steps) log = run_logged (stepped w s).0 steps (step_logged w log s)

pub first_logged : Logged first
first_logged = record {
  facts = record {
    numbered = λ i g e. absurd (cc);
    counted = refl;
    held = λ i h. absurd (omega arith);
    short = omega arith;
    came = λ i e. absurd (cc);
    told = λ k q e. absurd (cc);
  };
  session = tt;
}
