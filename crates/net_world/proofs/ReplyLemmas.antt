-- Each reply to a command is the machine's.
use Rattle.std.proofs.Common.{◌≡◌, ◌∙◌, ℕ, ◌+◌, ◌-◌, ◌^◌, ◌≤◌, ◌<◌, List, [], ◌∷◌, ◌++◌, Bool, true, false, Some, None, refl, sym, ap, subst, arith, length, nat_le, nat_lt, cond, ◌||◌, ◌&&◌}
use Rattle.std.proofs.lemmas.Bool.Decides.{nat_tests}
use Rattle.std.specs.Prelude.{◌==◌}
use Rattle.std.specs.FinMap as fin
use Rattle.std.specs.FinMap.{get-empty}
use Rattle.std.specs.declared.option.Option.{Option}
use Rattle.tm_data.specs.declared.transaction.Txn.{Txn}
use Rattle.tm_data.specs.declared.row_map.RowKey.{RowKey}
use Rattle.tm_data.specs.Orders.{row_cmp}
use Rattle.tm_base.specs.declared.command.Command.{Command}
use Rattle.tm_base.specs.declared.command.Command.TheVariants as command
use Rattle.tm_base.specs.declared.reply.Reply.{Reply}
use Rattle.tm_base.specs.declared.reply.Reply.TheVariants as reply
use Rattle.key_model.specs.State as machine
use Rattle.key_model.specs.State.{untouched}
use Rattle.key_model.specs.Steps.{seen, row_of, or_mapped, with_begun, with_read, with_write, with_free, Answers, Steps}
use Rattle.net_world.specs.declared.message.PlainGroup.TheVariants as group
use Rattle.net_world.specs.declared.session.PlainSession.{PlainSession}
use Rattle.net_world.specs.World.{State, first_writer, txn_of, durable, front, answered, answers, is_spent, begin, begin_new, read, read_in, read_named, get, refused_row, put, put_in, put_named, put_new, commit, commit_in, end_new, wait_for, lacking, logs, next_group}
use Rattle.net_world.proofs.AgreeLemmas.{one, Link, Alive, Rows, AtWork, Idle, Ended, Work, Busy, Phase, Agree, Follows, has_ended, answers_by}
use Rattle.net_world.proofs.FrontLemmas.{front_push, front-le}
use Rattle.net_world.proofs.MachineLemmas.{replies, begins, begun_opens, gets, puts, after_read, after_write, commits, freed, rows_after_put}

-- the machine gives this reply, and agrees with the state after it
abbrev pub Gives : State → Command → State × Reply → Type 0
Gives w c r = Follows w.machine r.0 (answered c r.1 ∷ [])

-- What an open transaction of the session needs.
at_work_agree : (w : State) (s : PlainSession) → w.session ≡ Some s → s.ending ≡ None → Alive w.machine
    → ((n : ℕ) → w.begun < n → fin.get w.machine.settled (txn_of n) ≡ None) → w.machine.sessions ≡ fin.insert fin.empty one s.txn → s.txn ≡ txn_of w.begun
    → AtWork w.rows w.machine s.txn → Agree w
at_work_agree w s e is alive later sessions number work = record {
  alive = alive;
  later = later;
  phase = subst (λ (o : Option PlainSession). Phase w.begun (durable w) w.rows w.machine o) (sym e) (record {
    sessions = sessions;
    number = number;
    work = subst (λ (q : Option ℕ). Work w.rows w.machine s.txn (has_ended (durable w) q)) (sym is) work;
  });
}

module _ (link : Link) (w : State) (so : Agree w) where
  -- a reply that says nothing of what the transaction sees or how it ended
  stays : (c : Command) (r : Reply) → Answers w.machine (Some first_writer) 1 c r w.machine → Gives w c (answers w c r)
  stays c r h = answers_by link w c r w.machine (replies w.machine so.alive c r w.machine h) refl so

  idle : w.session ≡ None → Idle w.rows w.machine
  idle e = subst (λ (o : Option PlainSession). Phase w.begun (durable w) w.rows w.machine o) e so.phase

  busy : (s : PlainSession) → w.session ≡ Some s → Busy w.begun (durable w) w.rows w.machine s
  busy s e = subst (λ (o : Option PlainSession). Phase w.begun (durable w) w.rows w.machine o) e so.phase

  pub open_sessions : (s : PlainSession) → w.session ≡ Some s → w.machine.sessions ≡ fin.insert fin.empty one s.txn
  open_sessions s e = (busy s e).sessions

  pub working : (s : PlainSession) → w.session ≡ Some s → s.ending ≡ None → AtWork w.rows w.machine s.txn
  working s e is = subst (λ (q : Option ℕ). Work w.rows w.machine s.txn (has_ended (durable w) q)) is (busy s e).work

  ending : (s : PlainSession) (q : ℕ) → w.session ≡ Some s → s.ending ≡ Some q → (b : Bool) → nat_le q (durable w) ≡ b → Work w.rows w.machine s.txn b
  ending s q e is b test =
      subst (λ (b : Bool). Work w.rows w.machine s.txn b) test
      (subst (λ (q : Option ℕ). Work w.rows w.machine s.txn (has_ended (durable w) q)) is (busy s e).work)

  pub begin_gives : (o : Option PlainSession) → w.session ≡ o → Gives w command.Begin (begin w o)
  begin_gives (Some s) e = stays command.Begin (reply.AlreadyOpen s.txn) refl
  begin_gives None e = by_room (is_spent w.begun)
    where
      t : Txn
      t = txn_of (w.begun + 1)

      by_room : (b : Bool) → Gives w command.Begin (begin_new w b)
      by_room true = stays command.Begin reply.FullTransactions refl
      by_room false =
          answers_by link (record w { begun = w.begun + 1; session = Some (record { txn = txn_of (w.begun + 1); ending = None }) })
          command.Begin (reply.Begun (txn_of (w.begun + 1))) (with_begun w.machine one (txn_of (w.begun + 1)))
          (begins w.machine so.alive (txn_of (w.begun + 1)) (idle e).sessions (so.later (w.begun + 1) (omega arith)) refl)
          refl (record {
            alive = record { closed = so.alive.closed; dying = so.alive.dying };
            later = λ n above. so.later n (omega arith);
            phase = record {
              sessions = ap (λ (f : fin.FinMap machine.session_cmp Txn). fin.insert f one (txn_of (w.begun + 1))) (idle e).sessions;
              number = refl;
              work = record {
                touched = untouched;
                opened = begun_opens w.machine so.alive (txn_of (w.begun + 1)) (idle e).opened;
                rows_are = λ k. (idle e).rows_are k ∙ sym (ap (λ (x : Option (Option (List ℕ))). or_mapped x (fin.get w.machine.map k)) (get-empty row_cmp k));
              };
            };
          })

  module _ (table : ℕ) (key : List ℕ) where
    get_value : (s : PlainSession) → w.session ≡ Some s → s.ending ≡ None → Gives w (command.Get table key) (answers w (command.Get table key) (reply.Value (fin.get w.rows (row_of table key))))
    get_value s e is =
        let at = working s e is in
        let n = with_read w.machine (record { txn = s.txn; touched = (working s e is).touched }) (row_of table key) (fin.get (working s e is).touched.writes (row_of table key)) in
        answers_by link w (command.Get table key) (reply.Value (fin.get w.rows (row_of table key))) _
        (subst (λ (x : Option (List ℕ)). Steps w.machine (answered (command.Get table key) (reply.Value x))
        (with_read w.machine (record { txn = s.txn; touched = (working s e is).touched }) (row_of table key) (fin.get (working s e is).touched.writes (row_of table key))))
        (sym ((working s e is).rows_are (row_of table key)))
        (gets w.machine so.alive s.txn (working s e is).touched (busy s e).sessions (working s e is).opened table key))
        (same (fin.get (working s e is).touched.writes (row_of table key)))
        (agree (fin.get (working s e is).touched.writes (row_of table key)))
      where
        same : (x : Option (Option (List ℕ))) → (with_read w.machine (record { txn = s.txn; touched = (working s e is).touched }) (row_of table key) x).settled ≡ w.machine.settled
        same None = refl
        same (Some x) = refl

        agree : (x : Option (Option (List ℕ))) → Agree (record w { machine = with_read w.machine (record { txn = s.txn; touched = (working s e is).touched }) (row_of table key) x })
        agree None =
            at_work_agree (record w { machine = with_read w.machine (record { txn = s.txn; touched = (working s e is).touched }) (row_of table key) None }) s e is
            (record { closed = so.alive.closed; dying = so.alive.dying }) so.later (busy s e).sessions (busy s e).number
            (record {
              touched = (after_read w.machine so.alive s.txn (working s e is).touched (busy s e).sessions (working s e is).opened (row_of table key) None).0;
              opened = (after_read w.machine so.alive s.txn (working s e is).touched (busy s e).sessions (working s e is).opened (row_of table key) None).1;
              rows_are = λ k. (working s e is).rows_are k
                  ∙ ap (λ (x : fin.FinMap row_cmp (Option (List ℕ))). or_mapped (fin.get x k) (fin.get w.machine.map k))
                  (sym (after_read w.machine so.alive s.txn (working s e is).touched (busy s e).sessions (working s e is).opened (row_of table key) None).2);
            })
        agree (Some x) = so

    pub get_gives : (o : Option PlainSession) → w.session ≡ o → Gives w (command.Get table key) (get w table key o)
    get_gives None e = stays (command.Get table key) reply.NoTransaction refl
    get_gives (Some s) e = by_ending s.ending refl
      where
        by_name : s.ending ≡ None → (a b : Bool) → Gives w (command.Get table key) (answers w (command.Get table key)
            (read_named w table key (cond a (Some (reply.NoTable table)) (cond b (Some (reply.TooLongKey (length key))) None))))
        by_name is true b = stays (command.Get table key) (reply.NoTable table) refl
        by_name is false true = stays (command.Get table key) (reply.TooLongKey (length key)) refl
        by_name is false false = get_value s e is

        by_ending : (q : Option ℕ) → s.ending ≡ q → Gives w (command.Get table key) (answers w (command.Get table key) (read_in w table key s q))
        by_ending (Some q) is = stays (command.Get table key) (reply.Ending s.txn) refl
        by_ending None is = by_name is _ _

  module _ (table : ℕ) (key value : List ℕ) where
    put_done : (s : PlainSession) → w.session ≡ Some s → s.ending ≡ None → Gives w (command.Put table key value) (put_new w table key value s false)
    put_done s e is =
        let at = working s e is in
        answers_by link (record (logs w (group.Row (next_group w) table key value s.txn)) { rows = fin.insert w.rows (row_of table key) value })
        (command.Put table key value) reply.Done (with_write w.machine (record { txn = s.txn; touched = (working s e is).touched }) (row_of table key) (Some value))
        (puts w.machine so.alive s.txn (working s e is).touched (busy s e).sessions (working s e is).opened table key value)
        refl (at_work_agree
        (record (logs w (group.Row (next_group w) table key value s.txn)) {
          rows = fin.insert w.rows (row_of table key) value;
          machine = with_write w.machine (record { txn = s.txn; touched = (working s e is).touched }) (row_of table key) (Some value);
        }) s e is
        (record { closed = so.alive.closed; dying = so.alive.dying }) so.later (busy s e).sessions (busy s e).number
        (record {
          touched = record (working s e is).touched { writes = fin.insert (working s e is).touched.writes (row_of table key) (Some value) };
          opened = after_write w.machine so.alive s.txn (working s e is).touched (busy s e).sessions (working s e is).opened (row_of table key) (Some value);
          rows_are = rows_after_put w.rows w.machine (working s e is).touched (row_of table key) value (working s e is).rows_are;
        }))

    pub put_gives : (o : Option PlainSession) → w.session ≡ o → Gives w (command.Put table key value) (put w table key value o)
    put_gives None e = stays (command.Put table key value) reply.NoTransaction refl
    put_gives (Some s) e = by_ending s.ending refl
      where
        by_room : s.ending ≡ None → (b : Bool) → Gives w (command.Put table key value) (put_new w table key value s b)
        by_room is true = stays (command.Put table key value) reply.FullGroups refl
        by_room is false = put_done s e is

        by_value : s.ending ≡ None → (b : Bool) → Gives w (command.Put table key value) (put_named w table key value s (cond b (Some (reply.TooLongValue (length value))) None))
        by_value is true = stays (command.Put table key value) (reply.TooLongValue (length value)) refl
        by_value is false = by_room is (is_spent (length w.acks))

        by_name : s.ending ≡ None → (a b : Bool) → Gives w (command.Put table key value)
            (put_named w table key value s (refused_row value (cond a (Some (reply.NoTable table)) (cond b (Some (reply.TooLongKey (length key))) None))))
        by_name is true b = stays (command.Put table key value) (reply.NoTable table) refl
        by_name is false true = stays (command.Put table key value) (reply.TooLongKey (length key)) refl
        by_name is false false = by_value is _

        by_ending : (q : Option ℕ) → s.ending ≡ q → Gives w (command.Put table key value) (put_in w table key value s q)
        by_ending (Some q) is = stays (command.Put table key value) (reply.Ending s.txn) refl
        by_ending None is = by_name is _ _

  pub commit_gives : (o : Option PlainSession) → w.session ≡ o → Gives w command.Commit (commit w o)
  commit_gives None e = stays command.Commit reply.NoTransaction refl
  commit_gives (Some s) e = by_ending s.ending refl
    where
      not_yet : nat_le (length w.acks + 1) (front (w.acks ++ false ∷ [])) ≡ false
      not_yet = let same = front_push w.acks in let most = front-le w.acks in grind (arith, nat_tests)

      by_room : s.ending ≡ None → (b : Bool) → Gives w command.Commit (end_new w s b)
      by_room is true = stays command.Commit reply.FullGroups refl
      by_room is false =
          answers_by link (record (logs w (group.End (next_group w) s.txn)) { session = Some (record s { ending = Some (next_group w) }) })
          command.Commit (reply.AgainStore 1 (next_group w)) w.machine
          (replies w.machine so.alive command.Commit (reply.AgainStore 1 (next_group w)) w.machine refl)
          refl (record {
            alive = so.alive;
            later = so.later;
            phase = record {
              sessions = (busy s e).sessions;
              number = (busy s e).number;
              work = subst (λ (b : Bool). Work w.rows w.machine s.txn b) (sym not_yet) (working s e is);
            };
          })

      by_durable : (q : ℕ) → s.ending ≡ Some q → (b : Bool) → nat_le q (durable w) ≡ b → Gives w command.Commit (wait_for w s q b)
      by_durable q is false test = stays command.Commit (reply.AgainStore 1 (lacking w q)) refl
      by_durable q is true test =
          let done : Ended w.rows w.machine s.txn = ending s q e is true test in
          answers_by link (record w { session = None }) command.Commit (reply.Committed s.txn) (with_free w.machine one)
          (commits w.machine so.alive s.txn (busy s e).sessions done.settled)
          refl (record {
            alive = record { closed = so.alive.closed; dying = so.alive.dying };
            later = so.later;
            phase = record { sessions = freed w.machine so.alive s.txn (busy s e).sessions; opened = done.opened; rows_are = done.rows_are };
          })

      by_ending : (q : Option ℕ) → s.ending ≡ q → Gives w command.Commit (commit_in w s q)
      by_ending None is = by_room is (is_spent (length w.acks))
      by_ending (Some q) is = by_durable q is (nat_le q (durable w)) refl
