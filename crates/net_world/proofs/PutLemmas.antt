-- What a put does, and that messages stay sent.
use Rattle.std.proofs.Common.{◌≡◌, ◌∙◌, ℕ, ◌+◌, ◌-◌, ◌≤◌, ◌<◌, List, [], ◌∷◌, ◌++◌, Bool, true, false, Some, None, refl, sym, ap, subst, arith, length, nat_le, nat_lt, cond}
use Rattle.std.specs.Prelude.{slice_get, Contains, ◌==◌}
use Rattle.std.proofs.lemmas.Option.{slice_get_within}
use Rattle.std.specs.FinMap as fin
use Rattle.std.specs.declared.option.Option.{Option}
use Rattle.tm_data.specs.declared.transaction.Txn.{Txn}
use Rattle.tm_data.specs.Orders.{row_cmp-total, row_cmp-exact}
use Rattle.tm_base.specs.declared.command.Command.TheVariants as command
use Rattle.tm_base.specs.declared.reply.Reply.{Reply}
use Rattle.tm_base.specs.declared.reply.Reply.TheVariants as reply
use Rattle.key_model.specs.Steps.{row_of}
use Rattle.net_world.specs.declared.message.PlainGroup.{PlainGroup}
use Rattle.net_world.specs.declared.message.PlainGroup.TheVariants as group
use Rattle.net_world.specs.declared.message.PlainMessage.{PlainMessage}
use Rattle.net_world.specs.declared.message.PlainMessage.TheVariants.{Append, Ack}
use Rattle.net_world.specs.declared.session.PlainSession.{PlainSession}
use Rattle.net_world.specs.declared.step.PlainOutcome.TheVariants.{Fine, Answer}
use Rattle.net_world.specs.declared.step.PlainStep.{PlainStep}
use Rattle.net_world.specs.declared.step.PlainStep.TheVariants.{Begin, Get, Put, Commit, Deliver}
use Rattle.net_world.specs.Causes.{IsOpen, IsTable, NoGroupLeft, CauseOfPut}
use Rattle.net_world.specs.Claims.{OwnValueIsSeen, PutStands}
use Rattle.net_world.specs.Log.{seq_of}
use Rattle.net_world.specs.Runs.{run}
use Rattle.net_world.specs.World.{State, first, durable, is_spent, answers, begin, begin_new, read, read_named, refused_name, refused_row, put, put_in, put_named, put_new, commit, commit_in, end_new, wait_for, next_group, logs, deliver, append_by, stepped}
use Rattle.net_world.proofs.AgreeLemmas.{Link}
use Rattle.net_world.proofs.CausesHold.{put_cause}
use Rattle.net_world.proofs.ListLemmas.{got_left, got_last, got_within, contained}
use Rattle.net_world.proofs.LogRuns.{run_logged, step_logged, first_logged}
use Rattle.net_world.proofs.MachineRuns.{step_follows, run_follows, first_agrees}
use Rattle.net_world.proofs.MapLemmas.{at_same}
use Rattle.net_world.proofs.StandLemmas.{stands_after}
use Rattle.net_world.proofs.TestLemmas.{name_fits, lt_from, most_from, most_to, left_to}

module _ (w : State) (table : ℕ) (key value : List ℕ) where
  -- the state after a put by this transaction
  abbrev pub put_by : Txn → State × Reply
  put_by t =
      answers (record (logs w (group.Row (next_group w) table key value t)) { rows = fin.insert w.rows (row_of table key) value })
      (command.Put table key value) reply.Done

  done : (t : Txn) → IsOpen w t → IsTable table → length key ≤ 64 → length value ≤ 512 → (NoGroupLeft w → ⊥) → put w table key value w.session ≡ put_by t
  done t open-is table-is short small left =
      ap (λ (o : Option PlainSession). put w table key value o) open-is
      ∙ ap (λ (n : Option Reply). put_named w table key value (record { txn = t; ending = None }) (refused_row value n)) (name_fits table key table-is short)
      ∙ ap (λ (b : Bool). put_named w table key value (record { txn = t; ending = None }) (cond b (Some (reply.TooLongValue (length value))) None)) (most_to 512 (length value) small)
      ∙ ap (λ (b : Bool). put_new w table key value (record { txn = t; ending = None }) b) (left_to (length w.acks) left)

  -- why it was answered Done
  cause : (stepped w (Put table key value)).1 ≡ Answer reply.Done → CauseOfPut w table key value reply.Done
  cause e =
      let same : (put w table key value w.session).1 ≡ reply.Done = cc in
      subst (λ (r : Reply). CauseOfPut w table key value r) same (put_cause w table key value w.session refl)

  sees_after : (t : Txn) → IsOpen w t → IsTable table → length key ≤ 64 → (stepped (put_by t).0 (Get table key)).1 ≡ Answer (reply.Value (Some value))
  sees_after t open-is table-is short =
      ap (λ (o : Option PlainSession). Answer (read (put_by t).0 table key o)) open-is
      ∙ ap (λ (n : Option Reply). Answer (read_named (put_by t).0 table key n)) (name_fits table key table-is short)
      ∙ ap (λ (x : Option (List ℕ)). Answer (reply.Value x)) (at_same row_cmp-total row_cmp-exact w.rows (row_of table key) value)

  pub seen_after : (stepped w (Put table key value)).1 ≡ Answer reply.Done → (stepped (stepped w (Put table key value)).0 (Get table key)).1 ≡ Answer (reply.Value (Some value))
  seen_after e =
      let h = cause e in
      let same = done h.0.0 h.0.1 h.1 h.2 h.3 h.4 in
      subst (λ (r : State × Reply). (stepped r.0 (Get table key)).1 ≡ Answer (reply.Value (Some value))) (sym same) (sees_after h.0.0 h.0.1 h.1 h.2)

  -- its group was sent
  pub sent_after : (t : Txn) → IsOpen w t → (stepped w (Put table key value)).1 ≡ Answer reply.Done
      → slice_get (stepped w (Put table key value)).0.sent (length w.sent) ≡ Some (Append (group.Row (next_group w) table key value t))
  sent_after t open-is e =
      let h = cause e in
      let same = done t open-is h.1 h.2 h.3 h.4 in
      subst (λ (r : State × Reply). slice_get r.0.sent (length w.sent) ≡ Some (Append (group.Row (next_group w) table key value t))) (sym same)
      (got_last w.sent (Append (group.Row (next_group w) table key value t)) (length w.sent) refl)

-- ---- what was sent stays sent

module _ (w : State) (k : ℕ) (m : PlainMessage) (h : slice_get w.sent k ≡ Some m) where
  one_more : (x : PlainMessage) → slice_get (w.sent ++ x ∷ []) k ≡ Some m
  one_more x = let within = slice_get_within w.sent k m h in got_left w.sent (x ∷ []) k within ∙ h

  begin_keeps : (o : Option PlainSession) → slice_get (begin w o).0.sent k ≡ Some m
  begin_keeps (Some s) = h
  begin_keeps None = by_room (is_spent w.begun)
    where
      by_room : (b : Bool) → slice_get (begin_new w b).0.sent k ≡ Some m
      by_room true = h
      by_room false = h

  put_keeps : (table : ℕ) (key value : List ℕ) (o : Option PlainSession) → slice_get (put w table key value o).0.sent k ≡ Some m
  put_keeps table key value None = h
  put_keeps table key value (Some s) = by_ending s.ending
    where
      by_room : (b : Bool) → slice_get (put_new w table key value s b).0.sent k ≡ Some m
      by_room true = h
      by_room false = one_more (Append (group.Row (next_group w) table key value s.txn))

      by_name : (n : Option Reply) → slice_get (put_named w table key value s n).0.sent k ≡ Some m
      by_name (Some r) = h
      by_name None = by_room (is_spent (length w.acks))

      by_ending : (q : Option ℕ) → slice_get (put_in w table key value s q).0.sent k ≡ Some m
      by_ending (Some q) = h
      by_ending None = by_name (refused_row value (refused_name table key))

  commit_keeps : (o : Option PlainSession) → slice_get (commit w o).0.sent k ≡ Some m
  commit_keeps None = h
  commit_keeps (Some s) = by_ending s.ending
    where
      by_room : (b : Bool) → slice_get (end_new w s b).0.sent k ≡ Some m
      by_room true = h
      by_room false = one_more (Append (group.End (next_group w) s.txn))

      by_durable : (q : ℕ) (b : Bool) → slice_get (wait_for w s q b).0.sent k ≡ Some m
      by_durable q true = h
      by_durable q false = h

      by_ending : (q : Option ℕ) → slice_get (commit_in w s q).0.sent k ≡ Some m
      by_ending None = by_room (is_spent (length w.acks))
      by_ending (Some q) = by_durable q (nat_le q (durable w))

  append_keeps : (g : PlainGroup) (a b : Bool) → slice_get (append_by w g a b).sent k ≡ Some m
  append_keeps g true b = one_more (Ack (seq_of g))
  append_keeps g false true = one_more (Ack (seq_of g))
  append_keeps g false false = h

  deliver_keeps : (x : Option PlainMessage) → slice_get (deliver w x).sent k ≡ Some m
  deliver_keeps None = h
  deliver_keeps (Some (Append g)) = append_keeps g (seq_of g == length w.stored + 1) (nat_le (seq_of g) (length w.stored))
  deliver_keeps (Some (Ack q)) = h

  step_keeps : (s : PlainStep) → slice_get (stepped w s).0.sent k ≡ Some m
  step_keeps Begin = begin_keeps w.session
  step_keeps (Get table key) = h
  step_keeps (Put table key value) = put_keeps table key value w.session
  step_keeps Commit = commit_keeps w.session
  step_keeps (Deliver n) = deliver_keeps (slice_get w.sent (n - 1))

run_keeps : (w : State) (k : ℕ) (m : PlainMessage) → slice_get w.sent k ≡ Some m → (steps : List PlainStep) → slice_get (run w steps).sent k ≡ Some m
run_keeps w k m h [] = h
run_keeps w k m h (s ∷ steps) = run_keeps (stepped w s).0 k m (step_keeps w k m h s) steps

-- ---- the claims

pub own_value : (before : List PlainStep) (table : ℕ) (key value : List ℕ) → OwnValueIsSeen before table key value
own_value before table key value = seen_after (run first before) table key value

pub put_stands : Link → (before between after : List PlainStep) (table : ℕ) (key value : List ℕ) (t : Txn) → PutStands before between after table key value t
put_stands link before between after table key value t open-is e c =
    let so = (run_follows link first before first_agrees).agree in
    let log = run_logged first before first_logged in
    let so_put = (step_follows link (run first before) (Put table key value) so).agree in
    let log_put = step_logged (run first before) log (Put table key value) in
    let so_mid = (run_follows link (stepped (run first before) (Put table key value)).0 between so_put).agree in
    let log_mid = run_logged (stepped (run first before) (Put table key value)).0 between log_put in
    let sent = sent_after (run first before) table key value t open-is e in
    let later = run_keeps (stepped (run first before) (Put table key value)).0 _ _ sent between in
    let last = step_keeps (run (stepped (run first before) (Put table key value)).0 between) _ _ later Commit in
    let at_end = run_keeps (stepped (run (stepped (run first before) (Put table key value)).0 between) Commit).0 _ _ last after in
    let s = stands_after link (run (stepped (run first before) (Put table key value)).0 between) so_mid log_mid t c after in
    (next_group (run first before), s.whole (group.Row (next_group (run first before)) table key value t) (contained _ _ _ at_end) refl)

-- A step takes no message back.
pub grows : (w : State) (s : PlainStep) → length w.sent ≤ length (stepped w s).0.sent
grows w s = by_test (nat_lt 0 (length w.sent)) refl
  where
    by_test : (b : Bool) → nat_lt 0 (length w.sent) ≡ b → length w.sent ≤ length (stepped w s).0.sent
    by_test false e = let most = most_from 0 (length w.sent) e in omega arith
    by_test true e =
        let some = lt_from 0 (length w.sent) e in
        let last = got_within w.sent (length w.sent - 1) (omega arith) in
        let there = slice_get_within (stepped w s).0.sent (length w.sent - 1) last.0 (step_keeps w (length w.sent - 1) last.0 last.1 s) in
        omega arith
