-- What was answered Committed stands ever after.
use Rattle.std.proofs.Common.{◌≡◌, ◌∙◌, ℕ, ◌+◌, ◌-◌, ◌≤◌, ◌<◌, ◌⊎◌, inl, inr, List, [], ◌∷◌, ◌++◌, Bool, true, false, Some, None, refl, sym, ap, subst, arith, length, length-append, nat_le, cond, set}
use Rattle.std.specs.Prelude.{slice_get, Contains, ◌==◌}
use Rattle.std.proofs.lemmas.Option.{slice_get_within}
use Rattle.std.specs.FinMap as fin
use Rattle.std.specs.declared.option.Option.{Option}
use Rattle.tm_data.specs.declared.transaction.Txn.{Txn}
use Rattle.tm_base.specs.declared.command.Command.TheVariants as command
use Rattle.tm_base.specs.declared.reply.Reply.{Reply}
use Rattle.tm_base.specs.declared.reply.Reply.TheVariants as reply
use Rattle.net_world.specs.declared.message.PlainGroup.{PlainGroup}
use Rattle.net_world.specs.declared.message.PlainGroup.TheVariants as group
use Rattle.net_world.specs.declared.message.PlainMessage.{PlainMessage}
use Rattle.net_world.specs.declared.message.PlainMessage.TheVariants.{Append, Ack}
use Rattle.net_world.specs.declared.session.PlainSession.{PlainSession}
use Rattle.net_world.specs.declared.step.PlainOutcome.{PlainOutcome}
use Rattle.net_world.specs.declared.step.PlainOutcome.TheVariants.{Fine, Answer}
use Rattle.net_world.specs.declared.step.PlainStep.{PlainStep}
use Rattle.net_world.specs.declared.step.PlainStep.TheVariants.{Begin, Get, Put, Commit, Deliver}
use Rattle.net_world.specs.Causes.{IsEnding, AllAcknowledged, CauseOfCommit}
use Rattle.net_world.specs.Claims.{Stands, CommittedStands}
use Rattle.net_world.specs.Log.{seq_of, owner_of}
use Rattle.net_world.specs.Runs.{run}
use Rattle.net_world.specs.World.{State, first, txn_of, durable, is_spent, answers, begin, begin_new, refused_name, refused_row, put, put_in, put_named, put_new, commit, commit_in, end_new, wait_for, next_group, deliver, append_by, stepped}
use Rattle.net_world.proofs.AgreeLemmas.{Link, Agree, Busy, Phase, Ended, Work, has_ended}
use Rattle.net_world.proofs.CausesHold.{commit_cause}
use Rattle.net_world.proofs.ListLemmas.{got_left, got_pushed, contained, place_of}
use Rattle.net_world.proofs.LogLemmas.{log_of, log_append, log_ack, logged_at, LogFacts}
use Rattle.net_world.proofs.LogRuns.{IsLast, EndLogged, SessionLogged, Logged, run_logged, step_logged, first_logged}
use Rattle.net_world.proofs.MachineRuns.{step_follows, run_follows, first_agrees}
use Rattle.net_world.proofs.TestLemmas.{le_to, after_front, above_from}

-- The session is past the transaction.
abbrev pub IsPast : Txn → Option PlainSession → Type 0
IsPast t None = Unit {0}
IsPast t (Some s) = t.number < s.txn.number

-- What the logs say of a transaction that stands: its end is group q, and the store has all up to it.
pub record InLog (begun : ℕ) (sent : List PlainMessage) (stored : List PlainGroup) (session : Option PlainSession) (t : Txn) (q : ℕ) : Type 0 where
  pub least : 1 ≤ q
  pub ended : slice_get (log_of sent) (q - 1) ≡ Some (group.End q t)
  pub within : (i : ℕ) (g : PlainGroup) → slice_get (log_of sent) i ≡ Some g → owner_of g ≡ t → i < q
  pub held : q ≤ length stored
  pub begun_is : t.number ≤ begun
  pub past : IsPast t session

module _ (begun : ℕ) (sent : List PlainMessage) (stored : List PlainGroup) (t : Txn) (q : ℕ) where
  -- a group of a later transaction is logged
  logs_more : (session after : Option PlainSession) (g : PlainGroup) → InLog begun sent stored session t q → t.number < (owner_of g).number → IsPast t after → InLog begun (sent ++ Append g ∷ []) stored after t q
  logs_more session after g h later past = record {
    least = h.least;
    ended =
        let place = slice_get_within (log_of sent) (q - 1) (group.End q t) h.ended in
        ap (λ (l : List PlainGroup). slice_get l (q - 1)) (log_append sent g) ∙ got_left (log_of sent) (g ∷ []) (q - 1) place ∙ h.ended;
    within = λ i x e own. within i x own (got_pushed (log_of sent) g x i (ap (λ (l : List PlainGroup). slice_get l i) (sym (log_append sent g)) ∙ e));
    held = h.held;
    begun_is = h.begun_is;
    past = past;
  }
    where
      within : (i : ℕ) (x : PlainGroup) → owner_of x ≡ t → (slice_get (log_of sent) i ≡ Some x) ⊎ ((i ≡ length (log_of sent)) × (x ≡ g)) → i < q
      within i x own (inl e) = h.within i x e own
      within i x own (inr e) = absurd (omega (arith, later, ap (λ (y : PlainGroup). (owner_of y).number) e.1, ap (λ (u : Txn). u.number) own))

  -- the store has more, or acknowledges
  store_more : (session : Option PlainSession) (p : ℕ) (more : List PlainGroup) → InLog begun sent stored session t q → InLog begun (sent ++ Ack p ∷ []) (stored ++ more) session t q
  store_more session p more h = record {
    least = h.least;
    ended = ap (λ (l : List PlainGroup). slice_get l (q - 1)) (log_ack sent p) ∙ h.ended;
    within = λ i x e own. h.within i x (ap (λ (l : List PlainGroup). slice_get l i) (sym (log_ack sent p)) ∙ e) own;
    held = omega (arith, length-append stored more, h.held);
    begun_is = h.begun_is;
    past = h.past;
  }

  ack_more : (session : Option PlainSession) (p : ℕ) → InLog begun sent stored session t q → InLog begun (sent ++ Ack p ∷ []) stored session t q
  ack_more session p h = record {
    least = h.least;
    ended = ap (λ (l : List PlainGroup). slice_get l (q - 1)) (log_ack sent p) ∙ h.ended;
    within = λ i x e own. h.within i x (ap (λ (l : List PlainGroup). slice_get l i) (sym (log_ack sent p)) ∙ e) own;
    held = h.held;
    begun_is = h.begun_is;
    past = h.past;
  }

abbrev pub Logs : State → Txn → ℕ → Type 0
Logs w t q = InLog w.begun w.sent w.stored w.session t q

module _ (w : State) (t : Txn) (q : ℕ) (h : InLog w.begun w.sent w.stored w.session t q) where
  past_of_session : (s : PlainSession) → w.session ≡ Some s → t.number < s.txn.number
  past_of_session s e = subst (λ (o : Option PlainSession). IsPast t o) e h.past

  begin_logs : (o : Option PlainSession) → Logs (begin w o).0 t q
  begin_logs (Some s) = h
  begin_logs None = by_room (is_spent w.begun)
    where
      by_room : (b : Bool) → Logs (begin_new w b).0 t q
      by_room true = h
      by_room false = let upto = h.begun_is in record { least = h.least; ended = h.ended; within = h.within; held = h.held; begun_is = omega arith; past = omega arith }

  put_logs : (table : ℕ) (key value : List ℕ) (o : Option PlainSession) → w.session ≡ o → Logs (put w table key value o).0 t q
  put_logs table key value None e = h
  put_logs table key value (Some s) e = by_ending s.ending
    where
      by_room : (b : Bool) → Logs (put_new w table key value s b).0 t q
      by_room true = h
      by_room false = logs_more w.begun w.sent w.stored t q w.session w.session (group.Row (next_group w) table key value s.txn) h (past_of_session s e) h.past

      by_name : (n : Option Reply) → Logs (put_named w table key value s n).0 t q
      by_name (Some r) = h
      by_name None = by_room (is_spent (length w.acks))

      by_ending : (p : Option ℕ) → Logs (put_in w table key value s p).0 t q
      by_ending (Some p) = h
      by_ending None = by_name (refused_row value (refused_name table key))

  commit_logs : (o : Option PlainSession) → w.session ≡ o → Logs (commit w o).0 t q
  commit_logs None e = h
  commit_logs (Some s) e = by_ending s.ending
    where
      by_room : (b : Bool) → Logs (end_new w s b).0 t q
      by_room true = h
      by_room false = logs_more w.begun w.sent w.stored t q w.session (Some (record s { ending = Some (next_group w) })) (group.End (next_group w) s.txn) h (past_of_session s e) (past_of_session s e)

      by_durable : (p : ℕ) (b : Bool) → Logs (wait_for w s p b).0 t q
      by_durable p true = record { least = h.least; ended = h.ended; within = h.within; held = h.held; begun_is = h.begun_is; past = tt }
      by_durable p false = h

      by_ending : (p : Option ℕ) → Logs (commit_in w s p).0 t q
      by_ending None = by_room (is_spent (length w.acks))
      by_ending (Some p) = by_durable p (nat_le p (durable w))

  append_logs : (g : PlainGroup) (a b : Bool) → Logs (append_by w g a b) t q
  append_logs g true b = store_more w.begun w.sent w.stored t q w.session (seq_of g) (g ∷ []) h
  append_logs g false true = ack_more w.begun w.sent w.stored t q w.session (seq_of g) h
  append_logs g false false = h

  deliver_logs : (m : Option PlainMessage) → Logs (deliver w m) t q
  deliver_logs None = h
  deliver_logs (Some (Append g)) = append_logs g (seq_of g == length w.stored + 1) (nat_le (seq_of g) (length w.stored))
  deliver_logs (Some (Ack p)) = h

  step_logs : (s : PlainStep) → Logs (stepped w s).0 t q
  step_logs Begin = begin_logs w.session
  step_logs (Get table key) = h
  step_logs (Put table key value) = put_logs table key value w.session refl
  step_logs Commit = commit_logs w.session refl
  step_logs (Deliver n) = deliver_logs (slice_get w.sent (n - 1))

run_logs : (w : State) (steps : List PlainStep) (t : Txn) (q : ℕ) → Logs w t q → Logs (run w steps) t q
run_logs w [] t q h = h
run_logs w (s ∷ steps) t q h = run_logs (stepped w s).0 steps t q (step_logs w t q h s)

-- The logs and the machine together say that it stands.
stands : (w : State) (t : Txn) (q : ℕ) → Logged w → Logs w t q → fin.get w.machine.settled t ≡ Some true → Stands w t
stands w t q log h done = record {
  ended = (q, contained w.stored (group.End q t) (q - 1) (log.facts.held (q - 1) (omega (arith, h.held, h.least)) ∙ h.ended));
  whole = λ g sent own.
      let place = place_of w.sent (Append g) sent in
      let at = logged_at w.sent place.0 g place.1 in
      let below = h.within at.0 g at.1 own in
      contained w.stored g at.0 (log.facts.held at.0 (omega (arith, below, h.held)) ∙ at.1);
  settled = done;
}

-- ---- the step of Committed

module _ (link : Link) (w : State) (so : Agree w) (log : Logged w) (t : Txn) where
  -- where the session's end is group q, and all up to it are acknowledged
  record Done (q : ℕ) : Type 0 where
    logs : Logs (stepped w Commit).0 t q
    settled : fin.get (stepped w Commit).0.machine.settled t ≡ Some true

  done : (q : ℕ) → IsEnding w t q → AllAcknowledged w q → Done q
  done q e all = record {
    logs = subst (λ (r : State × Reply). Logs r.0 t q) (sym same) (record {
      least = last.least;
      ended = last.ended;
      within = λ i g is own. let below = slice_get_within (log_of w.sent) i g is in omega (arith, last.whole);
      held = let came = log.facts.came (q - 1) (all q last.least (omega arith)).1 in omega (arith, last.least);
      begun_is = omega (arith, ap (λ (u : Txn). u.number) busy.number);
      past = tt;
    });
    settled = (step_follows link w Commit so).kept t final;
  }
    where
      busy : Busy w.begun (durable w) w.rows w.machine (record { txn = t; ending = Some q })
      busy = subst (λ (o : Option PlainSession). Phase w.begun (durable w) w.rows w.machine o) e so.phase

      last : IsLast w.sent t q
      last = subst (λ (o : Option PlainSession). SessionLogged w.sent o) e log.session

      durable_is : (b : Bool) → nat_le q (durable w) ≡ b → b ≡ true
      durable_is true is = refl
      durable_is false is = let far = above_from q (durable w) is in absurd (after_front w (all (durable w + 1) (omega arith) (omega arith)))

      final : fin.get w.machine.settled t ≡ Some true
      final = (subst (λ (b : Bool). Work w.rows w.machine t b) (durable_is (nat_le q (durable w)) refl) busy.work).settled

      same : commit w w.session ≡ answers (record w { session = None }) command.Commit (reply.Committed t)
      same = ap (λ (o : Option PlainSession). commit w o) e ∙ ap (λ (b : Bool). wait_for w (record { txn = t; ending = Some q }) q b) (durable_is (nat_le q (durable w)) refl)

  at_least_one : (s : PlainSession) (q : ℕ) → w.session ≡ Some s → s.ending ≡ Some q → 1 ≤ q
  at_least_one s q e is =
      (subst (λ (q : Option ℕ). EndLogged w.sent s.txn q) is (subst (λ (o : Option PlainSession). SessionLogged w.sent o) e log.session)).least

  committed : (stepped w Commit).1 ≡ Answer (reply.Committed t) → (q : ℕ) × Done q
  committed e =
      let same : (commit w w.session).1 ≡ reply.Committed t = cc in
      let cause = subst (λ (r : Reply). CauseOfCommit w r) same (commit_cause w at_least_one w.session refl) in
      (cause.0, done cause.0 cause.1 cause.2)

-- it stands from there on
pub stands_after : Link → (w : State) → Agree w → Logged w → (t : Txn) → (stepped w Commit).1 ≡ Answer (reply.Committed t) → (after : List PlainStep) → Stands (run (stepped w Commit).0 after) t
stands_after link w so log t e after =
    let d = committed link w so log t e in
    let log_new = step_logged w log Commit in
    let so_new = (step_follows link w Commit so).agree in
    stands (run (stepped w Commit).0 after) t d.0
    (run_logged (stepped w Commit).0 after log_new)
    (run_logs (stepped w Commit).0 after t d.0 d.1.logs)
    ((run_follows link (stepped w Commit).0 after so_new).kept t d.1.settled)

pub committed_stands : Link → (before after : List PlainStep) (t : Txn) → CommittedStands before after t
committed_stands link before after t e =
    stands_after link (run first before) (run_follows link first before first_agrees).agree (run_logged first before first_logged) t e after
