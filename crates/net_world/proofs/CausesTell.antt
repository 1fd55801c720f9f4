-- Where the cause of a reply holds, that reply is given.
use Rattle.std.proofs.Common.{◌≡◌, ◌∙◌, ℕ, ◌+◌, ◌-◌, ◌^◌, ◌≤◌, ◌<◌, ◌⊎◌, inl, inr, List, Bool, true, false, Some, None, refl, sym, ap, subst, arith, length, nat_le, nat_lt, cond}
use Rattle.std.specs.Prelude.{slice_get}
use Rattle.std.specs.FinMap as fin
use Rattle.std.specs.declared.option.Option.{Option}
use Rattle.tm_data.specs.declared.transaction.Txn.{Txn}
use Rattle.tm_base.specs.declared.reply.Reply.{Reply}
use Rattle.tm_base.specs.declared.reply.Reply.TheVariants as reply
use Rattle.key_model.specs.State as machine
use Rattle.key_model.specs.Steps.{seen, row_of}
use Rattle.net_world.specs.declared.session.PlainSession.{PlainSession}
use Rattle.net_world.specs.Causes.{HasNone, NoGroupLeft, IsOpen, IsEnding, IsTable, MayAccess, IsAcknowledged, AllAcknowledged, IsLeastWanting, IsNamed, Sees, CauseOfBegin, CauseOfGet, CauseOfPut, CauseOfCommit}
use Rattle.net_world.specs.World.{State, txn_of, durable, is_spent, is_acknowledged, begin, begin_new, read, read_named, refused_name, refused_row, put, put_named, put_new, commit, end_new, wait_for, lacking, next_group}
use Rattle.net_world.proofs.TestLemmas.{le_from, above_to, above_from, lt_from, lt_to, most_to, most_from, spent_to, left_to, name_table, name_key, name_fits, lacks_to, in_front, after_front}

-- the session of an open transaction, and of one whose end is group q
abbrev at_work : Txn → PlainSession
at_work t = record { txn = t; ending = None }

abbrev at_end : Txn → ℕ → PlainSession
at_end t q = record { txn = t; ending = Some q }

module _ (w : State) where
  pub begin_tells : (r : Reply) → CauseOfBegin w r → (begin w w.session).1 ≡ r
  begin_tells (reply.AlreadyOpen t) (inl e) = ap (λ (o : Option PlainSession). (begin w o).1) e
  begin_tells (reply.AlreadyOpen t) (inr e) = ap (λ (o : Option PlainSession). (begin w o).1) e.1
  begin_tells reply.FullTransactions h = ap (λ (o : Option PlainSession). (begin w o).1) h.0 ∙ ap (λ (b : Bool). (begin_new w b).1) (spent_to w.begun h.1)
  begin_tells (reply.Begun t) h =
      ap (λ (o : Option PlainSession). (begin w o).1) h.0 ∙ ap (λ (b : Bool). (begin_new w b).1) (left_to w.begun h.1)
      ∙ ap (λ (t : Txn). reply.Begun t) (sym h.2)
  begin_tells _ h = absurd h

  pub get_tells : ((t : Txn) → IsOpen w t → (table : ℕ) (key : List ℕ) (x : Option (List ℕ)) → Sees w.machine t (row_of table key) x → fin.get w.rows (row_of table key) ≡ x)
      → (table : ℕ) (key : List ℕ) (r : Reply) → CauseOfGet w table key r → read w table key w.session ≡ r
  get_tells sees table key reply.NoTransaction h = ap (λ (o : Option PlainSession). read w table key o) h
  get_tells sees table key (reply.Ending t) h = ap (λ (o : Option PlainSession). read w table key o) h.1
  get_tells sees table key (reply.NoTable n) h =
      ap (λ (o : Option PlainSession). read w table key o) h.0.1 ∙ ap (λ (n : Option Reply). read_named w table key n) (name_table table key h.1)
      ∙ ap (λ (n : ℕ). reply.NoTable n) (sym h.2)
  get_tells sees table key (reply.TooLongKey n) h =
      ap (λ (o : Option PlainSession). read w table key o) h.0.1 ∙ ap (λ (n : Option Reply). read_named w table key n) (name_key table key h.1 h.2)
      ∙ ap (λ (n : ℕ). reply.TooLongKey n) (sym h.3)
  get_tells sees table key (reply.Value x) h =
      ap (λ (o : Option PlainSession). read w table key o) h.1 ∙ ap (λ (n : Option Reply). read_named w table key n) (name_fits table key h.2 h.3)
      ∙ ap (λ (x : Option (List ℕ)). reply.Value x) (sees h.0 h.1 table key x h.4)
  get_tells sees table key _ h = absurd h

  pub put_tells : (table : ℕ) (key value : List ℕ) (r : Reply) → CauseOfPut w table key value r → (put w table key value w.session).1 ≡ r
  put_tells table key value r h = tells r h
    where
      -- the transaction is open, and its names are refused so
      opens : (t : Txn) → IsOpen w t → (n : Option Reply) → refused_name table key ≡ n → (put w table key value w.session).1 ≡ (put_named w table key value (at_work t) (refused_row value n)).1
      opens t e n is = ap (λ (o : Option PlainSession). (put w table key value o).1) e ∙ ap (λ (n : Option Reply). (put_named w table key value (at_work t) (refused_row value n)).1) is

      -- all names are taken
      fits : (t : Txn) → IsOpen w t → IsTable table → length key ≤ 64 → length value ≤ 512 → (put w table key value w.session).1 ≡ (put_new w table key value (at_work t) (is_spent (length w.acks))).1
      fits t e is short small =
          opens t e None (name_fits table key is short)
          ∙ ap (λ (b : Bool). (put_named w table key value (at_work t) (cond b (Some (reply.TooLongValue (length value))) None)).1) (most_to 512 (length value) small)

      tells : (r : Reply) → CauseOfPut w table key value r → (put w table key value w.session).1 ≡ r
      tells reply.NoTransaction h = ap (λ (o : Option PlainSession). (put w table key value o).1) h
      tells (reply.Ending t) h = ap (λ (o : Option PlainSession). (put w table key value o).1) h.1
      tells (reply.NoTable n) h = opens h.0.0 h.0.1 (Some (reply.NoTable table)) (name_table table key h.1) ∙ ap (λ (n : ℕ). reply.NoTable n) (sym h.2)
      tells (reply.TooLongKey n) h = opens h.0.0 h.0.1 (Some (reply.TooLongKey (length key))) (name_key table key h.1 h.2) ∙ ap (λ (n : ℕ). reply.TooLongKey n) (sym h.3)
      tells (reply.TooLongValue n) h =
          opens h.0.0 h.0.1 None (name_fits table key h.1 h.2)
          ∙ ap (λ (b : Bool). (put_named w table key value (at_work h.0.0) (cond b (Some (reply.TooLongValue (length value))) None)).1) (lt_to 512 (length value) h.3)
          ∙ ap (λ (n : ℕ). reply.TooLongValue n) (sym h.4)
      tells reply.FullGroups h = fits h.0.0 h.0.1 h.1 h.2 h.3 ∙ ap (λ (b : Bool). (put_new w table key value (at_work h.0.0) b).1) (spent_to (length w.acks) h.4)
      tells reply.Done h = fits h.0.0 h.0.1 h.1 h.2 h.3 ∙ ap (λ (b : Bool). (put_new w table key value (at_work h.0.0) b).1) (left_to (length w.acks) h.4)
      tells _ h = absurd h

  -- A commit waits for its end, group `own`.
  waits : (t : Txn) (own : ℕ) → IsEnding w t own → durable w < own → (commit w w.session).1 ≡ reply.AgainStore 1 (lacking w own)
  waits t own e far = ap (λ (o : Option PlainSession). (commit w o).1) e ∙ ap (λ (b : Bool). (wait_for w (at_end t own) own b).1) (above_to own (durable w) far)

  names : (own q : ℕ) → 1 ≤ own → IsNamed w own q → (durable w < own) × (lacking w own ≡ q)
  names own q least (inl h) = (far (nat_le own (durable w)) refl, ap (λ (b : Bool). cond b (durable w + 1) own) (lacks_to (slice_get w.acks (own - 1)) (λ came. h.0 (least, came))) ∙ sym h.1)
    where
      far : (b : Bool) → nat_le own (durable w) ≡ b → durable w < own
      far false e = above_from own (durable w) e
      far true e = absurd (h.0 (in_front w own least (le_from own (durable w) e)))
  names own q least (inr h) = (omega (arith, is, h.1), ap (λ (o : Option Bool). cond (is_acknowledged o) (durable w + 1) own) h.0.1 ∙ sym is)
    where
      above : (b : Bool) → nat_lt (durable w) q ≡ b → durable w < q
      above true e = lt_from (durable w) q e
      above false e = let most = most_from (durable w) q e in absurd (h.2.1 (in_front w q h.2.0 most))

      below : (b : Bool) → nat_lt (durable w + 1) q ≡ b → q ≤ durable w + 1
      below true e = let less = lt_from (durable w + 1) q e in absurd (after_front w (h.2.2 (durable w + 1) (omega arith) less))
      below false e = most_from (durable w + 1) q e

      is : q ≡ durable w + 1
      is = let a = above (nat_lt (durable w) q) refl in let b = below (nat_lt (durable w + 1) q) refl in omega arith

  pub commit_tells : ((t : Txn) (q : ℕ) → IsEnding w t q → 1 ≤ q) → (r : Reply) → CauseOfCommit w r → (commit w w.session).1 ≡ r
  commit_tells from reply.NoTransaction h = ap (λ (o : Option PlainSession). (commit w o).1) h
  commit_tells from reply.FullGroups h =
      ap (λ (o : Option PlainSession). (commit w o).1) h.0.1 ∙ ap (λ (b : Bool). (end_new w (at_work h.0.0) b).1) (spent_to (length w.acks) h.1)
  commit_tells from (reply.AgainStore i q) h = again h.1
    where
      again : (MayAccess w × (¬ NoGroupLeft w) × (q ≡ next_group w)) ⊎ ((t : Txn) × (own : ℕ) × IsEnding w t own × IsNamed w own q) → (commit w w.session).1 ≡ reply.AgainStore i q
      again (inl g) =
          ap (λ (o : Option PlainSession). (commit w o).1) g.0.1 ∙ ap (λ (b : Bool). (end_new w (at_work g.0.0) b).1) (left_to (length w.acks) g.1)
          ∙ ap (λ (i : ℕ). reply.AgainStore i (next_group w)) (sym h.0) ∙ ap (λ (q : ℕ). reply.AgainStore i q) (sym g.2)
      again (inr g) =
          let n = names g.1 q (from g.0 g.1 g.2) g.3 in
          waits g.0 g.1 g.2 n.0 ∙ ap (λ (i : ℕ). reply.AgainStore i (lacking w g.1)) (sym h.0) ∙ ap (λ (q : ℕ). reply.AgainStore i q) n.1
  commit_tells from (reply.Committed t) h =
      ap (λ (o : Option PlainSession). (commit w o).1) h.1 ∙ ap (λ (b : Bool). (wait_for w (at_end t h.0) h.0 b).1) (done (nat_le h.0 (durable w)) refl)
    where
      done : (b : Bool) → nat_le h.0 (durable w) ≡ b → b ≡ true
      done true e = refl
      done false e = let far = above_from h.0 (durable w) e in absurd (after_front w (h.2 (durable w + 1) (omega arith) (omega arith)))
  commit_tells from _ h = absurd h
