-- The reply that is given has its cause.
use Rattle.std.proofs.Common.{◌≡◌, ◌∙◌, ℕ, ◌+◌, ◌-◌, ◌^◌, ◌≤◌, ◌<◌, ◌⊎◌, inl, inr, List, Bool, true, false, Some, None, refl, sym, ap, subst, arith, length, nat_le, nat_lt, cond, ◌||◌}
use Rattle.std.specs.Prelude.{◌==◌, slice_get}
use Rattle.std.specs.FinMap as fin
use Rattle.std.specs.declared.option.Option.{Option}
use Rattle.tm_data.specs.declared.transaction.Txn.{Txn}
use Rattle.tm_base.specs.declared.reply.Reply.{Reply}
use Rattle.tm_base.specs.declared.reply.Reply.TheVariants as reply
use Rattle.key_model.specs.State as machine
use Rattle.key_model.specs.Steps.{seen, row_of}
use Rattle.net_world.specs.declared.session.PlainSession.{PlainSession}
use Rattle.net_world.specs.Causes.{IsOpen, IsEnding, IsTable, MayAccess, IsAcknowledged, AllAcknowledged, IsLeastWanting, IsNamed, Sees, CauseOfBegin, CauseOfGet, CauseOfPut, CauseOfCommit}
use Rattle.net_world.specs.World.{State, durable, is_spent, is_acknowledged, begin, begin_new, read, read_in, read_named, refused_row, put, put_in, put_named, put_new, commit, commit_in, end_new, wait_for, lacking, next_group}
use Rattle.net_world.proofs.AgreeLemmas.{AtWork}
use Rattle.net_world.proofs.TestLemmas.{le_from, above_from, lt_from, most_from, no_table_from, table_from, spent_from, left_from, came_from, in_front, after_front}

module _ (w : State) where
  -- the session as the causes spell it
  held : (s : PlainSession) (q : Option ℕ) → w.session ≡ Some s → s.ending ≡ q → w.session ≡ Some (record { txn = s.txn; ending = q })
  held s q e is = e ∙ ap (λ (q : Option ℕ). Some (record { txn = s.txn; ending = q })) is

  pub begin_cause : (o : Option PlainSession) → w.session ≡ o → CauseOfBegin w (begin w o).1
  begin_cause (Some s) e = by_ending s.ending refl
    where
      by_ending : (q : Option ℕ) → s.ending ≡ q → IsOpen w s.txn ⊎ ((q : ℕ) × IsEnding w s.txn q)
      by_ending None is = inl (held s None e is)
      by_ending (Some q) is = inr (q, held s (Some q) e is)
  begin_cause None e = by_room (is_spent w.begun) refl
    where
      by_room : (b : Bool) → is_spent w.begun ≡ b → CauseOfBegin w (begin_new w b).1
      by_room true test = (e, spent_from w.begun test)
      by_room false test = (e, left_from w.begun test, refl)

  -- what an open transaction sees at each key
  abbrev Seen : Type 0
  Seen = (s : PlainSession) → w.session ≡ Some s → s.ending ≡ None → (table : ℕ) (key : List ℕ) → Sees w.machine s.txn (row_of table key) (fin.get w.rows (row_of table key))

  pub get_cause : Seen → (table : ℕ) (key : List ℕ) (o : Option PlainSession) → w.session ≡ o → CauseOfGet w table key (read w table key o)
  get_cause sees table key None e = e
  get_cause sees table key (Some s) e = by_ending s.ending refl
    where
      by_name : s.ending ≡ None → (a b : Bool) → (table == 0 || nat_lt 1024 table) ≡ a → nat_lt 64 (length key) ≡ b
          → CauseOfGet w table key (read_named w table key (cond a (Some (reply.NoTable table)) (cond b (Some (reply.TooLongKey (length key))) None)))
      by_name is true b a-is b-is = ((s.txn, held s None e is), no_table_from table a-is, refl)
      by_name is false true a-is b-is = ((s.txn, held s None e is), table_from table a-is, lt_from 64 (length key) b-is, refl)
      by_name is false false a-is b-is = (s.txn, held s None e is, table_from table a-is, most_from 64 (length key) b-is, sees s e is table key)

      by_ending : (q : Option ℕ) → s.ending ≡ q → CauseOfGet w table key (read_in w table key s q)
      by_ending (Some q) is = (q, held s (Some q) e is)
      by_ending None is = by_name is _ _ refl refl

  pub put_cause : (table : ℕ) (key value : List ℕ) (o : Option PlainSession) → w.session ≡ o → CauseOfPut w table key value (put w table key value o).1
  put_cause table key value None e = e
  put_cause table key value (Some s) e = by_ending s.ending refl
    where
      by_room : s.ending ≡ None → IsTable table → length key ≤ 64 → length value ≤ 512 → (b : Bool) → is_spent (length w.acks) ≡ b → CauseOfPut w table key value (put_new w table key value s b).1
      by_room is table-is key-is value-is true test = ((s.txn, held s None e is), table-is, key-is, value-is, spent_from (length w.acks) test)
      by_room is table-is key-is value-is false test = ((s.txn, held s None e is), table-is, key-is, value-is, left_from (length w.acks) test)

      by_value : s.ending ≡ None → IsTable table → length key ≤ 64 → (b : Bool) → nat_lt 512 (length value) ≡ b
          → CauseOfPut w table key value (put_named w table key value s (cond b (Some (reply.TooLongValue (length value))) None)).1
      by_value is table-is key-is true test = ((s.txn, held s None e is), table-is, key-is, lt_from 512 (length value) test, refl)
      by_value is table-is key-is false test = by_room is table-is key-is (most_from 512 (length value) test) (is_spent (length w.acks)) refl

      by_name : s.ending ≡ None → (a b : Bool) → (table == 0 || nat_lt 1024 table) ≡ a → nat_lt 64 (length key) ≡ b
          → CauseOfPut w table key value (put_named w table key value s (refused_row value (cond a (Some (reply.NoTable table)) (cond b (Some (reply.TooLongKey (length key))) None)))).1
      by_name is true b a-is b-is = ((s.txn, held s None e is), no_table_from table a-is, refl)
      by_name is false true a-is b-is = ((s.txn, held s None e is), table_from table a-is, lt_from 64 (length key) b-is, refl)
      by_name is false false a-is b-is = by_value is (table_from table a-is) (most_from 64 (length key) b-is) _ refl

      by_ending : (q : Option ℕ) → s.ending ≡ q → CauseOfPut w table key value (put_in w table key value s q).1
      by_ending (Some q) is = (q, held s (Some q) e is)
      by_ending None is = by_name is _ _ refl refl

  -- The group that a commit names where its end is not durable.
  named : (own : ℕ) → 1 ≤ own → nat_le own (durable w) ≡ false → IsNamed w own (lacking w own)
  named own least test = by_own (is_acknowledged (slice_get w.acks (own - 1))) refl
    where
      far : durable w < own
      far = above_from own (durable w) test

      by_own : (b : Bool) → is_acknowledged (slice_get w.acks (own - 1)) ≡ b → IsNamed w own (cond b (durable w + 1) own)
      by_own false is = inl ((λ h. let came = ap is_acknowledged h.1 in cc), refl)
      by_own true is =
          let came : slice_get w.acks (own - 1) ≡ Some true = came_from (slice_get w.acks (own - 1)) is in
          let other : durable w + 1 ≡ own → ⊥ = λ same. after_front w (subst (λ (q : ℕ). IsAcknowledged w q) (sym same) (least, came)) in
          inr ((least, came), earlier other, (omega arith, after_front w, λ p one below. in_front w p one (omega arith)))
        where
          earlier : (durable w + 1 ≡ own → ⊥) → durable w + 1 < own
          earlier refuted = by_test (nat_lt (durable w + 1) own) refl
            where
              by_test : (b : Bool) → nat_lt (durable w + 1) own ≡ b → durable w + 1 < own
              by_test true t = lt_from (durable w + 1) own t
              by_test false t = let most = most_from (durable w + 1) own t in absurd (refuted (omega (arith, far)))

  pub commit_cause : ((s : PlainSession) (q : ℕ) → w.session ≡ Some s → s.ending ≡ Some q → 1 ≤ q) → (o : Option PlainSession) → w.session ≡ o → CauseOfCommit w (commit w o).1
  commit_cause from None e = e
  commit_cause from (Some s) e = by_ending s.ending refl
    where
      by_room : s.ending ≡ None → (b : Bool) → is_spent (length w.acks) ≡ b → CauseOfCommit w (end_new w s b).1
      by_room is true test = ((s.txn, held s None e is), spent_from (length w.acks) test)
      by_room is false test = (refl, inl ((s.txn, held s None e is), left_from (length w.acks) test, refl))

      by_durable : (q : ℕ) → s.ending ≡ Some q → (b : Bool) → nat_le q (durable w) ≡ b → CauseOfCommit w (wait_for w s q b).1
      by_durable q is true test = (q, held s (Some q) e is, λ p one most. let all = le_from q (durable w) test in in_front w p one (omega arith))
      by_durable q is false test = (refl, inr (s.txn, q, held s (Some q) e is, named q (from s q e is) test))

      by_ending : (q : Option ℕ) → s.ending ≡ q → CauseOfCommit w (commit_in w s q).1
      by_ending None is = by_room is (is_spent (length w.acks)) refl
      by_ending (Some q) is = by_durable q is (nat_le q (durable w)) refl
