-- The machine's steps where one session of one writer is at work.
use Rattle.std.proofs.Common.{◌≡◌, ◌≢◌, ◌∙◌, ℕ, ◌+◌, ◌≤◌, ◌<◌, ◌⊎◌, inl, inr, List, [], ◌∷◌, Bool, true, false, Some, None, refl, sym, ap, subst, arith, cond}
use Rattle.std.specs.FinMap as fin
use Rattle.std.specs.FinSet as sets
use Rattle.std.specs.FinMap.{get-empty, get-insert}
use Rattle.std.specs.FinSet.{contains-empty}
use Rattle.std.specs.Ordering.{eq_by_cmp}
use Rattle.std.specs.declared.option.Option.{Option}
use Rattle.tm_data.specs.declared.transaction.Txn.{Txn}
use Rattle.tm_data.specs.declared.transaction.Writer.{Writer}
use Rattle.tm_data.specs.declared.row_map.RowKey.{RowKey}
use Rattle.tm_data.specs.Orders.{row_cmp, row_cmp-total, row_cmp-exact, txn_cmp, txn_cmp-total, txn_cmp-exact, writer_cmp}
use Rattle.tm_base.specs.declared.command.Command.{Command}
use Rattle.tm_base.specs.declared.command.Command.TheVariants as command
use Rattle.tm_base.specs.declared.reply.Reply.{Reply}
use Rattle.tm_base.specs.declared.reply.Reply.TheVariants as reply
use Rattle.key_model.specs.State as machine
use Rattle.key_index.specs.declared.opened.Open.{Open}
use Rattle.key_model.specs.State.{dying_cmp, session_cmp, session_cmp-total, session_cmp-exact, untouched}
use Rattle.key_model.specs.Steps.{at, seen, row_of, or_mapped, with_begun, with_read, with_write, with_free, with_settled, IsDoomed, NeverBegun, NoOtherWrote, NoOtherRead, NoneDying, Answers, OpenTxn, open_txn, with_touched, IsValue, IsDone, Steps, Commits, Settles}
use Rattle.key_model.specs.After.{after, after_settled, with_all}
use Rattle.key_model.specs.declared.sessions.Session.{Session}
use Rattle.net_world.specs.World.{first_writer, txn_of, takes, answered, settled}
use Rattle.net_world.proofs.AgreeLemmas.{one, Link, Alive, Rows, AtWork, Idle, Ended}
use Rattle.net_world.proofs.MapLemmas.{at_same, at_other, alone, written_over, taken_away}

module _ (m : machine.State) (alive : Alive m) where
  open_writer : (w : Writer) → sets.contains m.closed w ≡ false
  open_writer w = ap (λ (s : sets.FinSet writer_cmp). sets.contains s w) alive.closed ∙ contains-empty writer_cmp w

  none_dying : (key : RowKey) → NoneDying m key
  none_dying key u = ap (λ (s : sets.FinSet dying_cmp). sets.contains s (record { row = key; txn = u })) alive.dying ∙ contains-empty dying_cmp (record { row = key; txn = u })

  undoomed : (o : Option Txn) → IsDoomed m o → ⊥
  undoomed None h = h
  undoomed (Some t) h = let no = open_writer t.writer in let yes = h.0 in cc

  -- a reply is given where the machine has no doomed transaction
  pub replies : (c : Command) (r : Reply) (n : machine.State) → Answers m (Some first_writer) 1 c r n → Steps m (answered c r) n
  replies c r n h = inr (record { living = undoomed (fin.get m.sessions one); answered = h })

  pub begins : (t : Txn) → m.sessions ≡ fin.empty → fin.get m.settled t ≡ None → t.writer ≡ first_writer → Steps m (answered command.Begin (reply.Begun t)) (with_begun m one t)
  begins t none fresh own = replies command.Begin (reply.Begun t) (with_begun m one t) (record {
    vacant = vacant one;
    fresh = ((λ s e. let no = vacant s in let yes = e in cc), fresh);
    own = own;
    begun = refl;
  })
    where
      vacant : (s : Session) → fin.get m.sessions s ≡ None
      vacant s = ap (λ (f : fin.FinMap session_cmp Txn). fin.get f s) none ∙ get-empty session_cmp s

  pub begun_opens : (t : Txn) → m.opened ≡ fin.empty → (with_begun m one t).opened ≡ fin.insert fin.empty t untouched
  begun_opens t none =
      ap (λ (b : Bool). cond b m.opened (fin.insert m.opened t untouched)) (open_writer t.writer)
      ∙ ap (λ (f : fin.FinMap txn_cmp Open). fin.insert f t untouched) none

  -- One transaction is open, in the one session.
  module _ (t : Txn) (touched : Open) (session : m.sessions ≡ fin.insert fin.empty one t) (opened : m.opened ≡ fin.insert fin.empty t touched) where
    in_session : fin.get m.sessions one ≡ Some t
    in_session = ap (λ (f : fin.FinMap session_cmp Txn). fin.get f one) session ∙ at_same session_cmp-total session_cmp-exact fin.empty one t

    pub is_open : fin.get m.opened t ≡ Some touched
    is_open = ap (λ (f : fin.FinMap txn_cmp Open). fin.get f t) opened ∙ at_same txn_cmp-total txn_cmp-exact fin.empty t touched

    mine : OpenTxn
    mine = record { txn = t; touched = touched }

    mine_is : open_txn m (fin.get m.sessions one) ≡ Some (record { txn = t; touched = touched })
    mine_is = ap (open_txn m) in_session ∙ ap (with_touched t) is_open

    no_other : (u : Txn) (x : Open) → u ≢ t → fin.get m.opened u ≡ Some x → ⊥
    no_other u x ne e = ne (alone txn_cmp-total txn_cmp-exact t u touched x (sym (ap (λ (f : fin.FinMap txn_cmp Open). fin.get f u) opened) ∙ e)).0

    pub gets : (table : ℕ) (key : List ℕ) → Steps m (answered (command.Get table key) (reply.Value (seen m touched (row_of table key))))
        (with_read m (record { txn = t; touched = touched }) (row_of table key) (fin.get touched.writes (row_of table key)))
    gets table key =
        let k = row_of table key in
        let n = with_read m (record { txn = t; touched = touched }) (row_of table key) (fin.get touched.writes (row_of table key)) in
        replies (command.Get table key) (reply.Value (seen m touched (row_of table key))) _ (
        subst (λ (o : Option OpenTxn). IsValue m o (row_of table key) (seen m touched (row_of table key)) (with_read m (record { txn = t; touched = touched }) (row_of table key) (fin.get touched.writes (row_of table key)))) (sym mine_is) (record {
          unwritten = λ u x ne e. absurd (no_other u x ne e);
          unlocked = none_dying (row_of table key);
          seen = refl;
          noted = refl;
        }))

    pub puts : (table : ℕ) (key value : List ℕ) → Steps m (answered (command.Put table key value) reply.Done) (with_write m (record { txn = t; touched = touched }) (row_of table key) (Some value))
    puts table key value =
        replies (command.Put table key value) reply.Done _ (
        subst (λ (o : Option OpenTxn). IsDone m o (row_of table key) (Some value) (with_write m (record { txn = t; touched = touched }) (row_of table key) (Some value))) (sym mine_is) (record {
          unwritten = λ u x ne e. absurd (no_other u x ne e);
          unread = λ u x ne e. absurd (no_other u x ne e);
          unlocked = none_dying (row_of table key);
          written = refl;
        }))

    -- a read leaves what was written
    pub after_read : (key : RowKey) (w : Option (Option (List ℕ))) → (x : Open)
        × ((with_read m (record { txn = t; touched = touched }) key w).opened ≡ fin.insert fin.empty t x) × (x.writes ≡ touched.writes)
    after_read key None = (
      record touched { reads = fin.insert touched.reads key tt },
      ap (λ (f : fin.FinMap txn_cmp Open). fin.insert f t (record touched { reads = fin.insert touched.reads key tt })) opened
          ∙ written_over txn_cmp-total txn_cmp-exact fin.empty t touched (record touched { reads = fin.insert touched.reads key tt }),
      refl,
    )
    after_read key (Some w) = (touched, opened, refl)

    pub after_write : (key : RowKey) (value : Option (List ℕ)) →
        (with_write m (record { txn = t; touched = touched }) key value).opened ≡ fin.insert fin.empty t (record touched { writes = fin.insert touched.writes key value })
    after_write key value =
        ap (λ (f : fin.FinMap txn_cmp Open). fin.insert f t (record touched { writes = fin.insert touched.writes key value })) opened
        ∙ written_over txn_cmp-total txn_cmp-exact fin.empty t touched (record touched { writes = fin.insert touched.writes key value })

    pub settling : after m (settled t) ≡ Some (record (with_settled m t true) { map = with_all m.map (fin.entries touched.writes) })
    settling = ap (λ (o : Option Open). after_settled m t o true) is_open

    pub settles : Link → Settles m t (fin.get m.opened t) true (record (with_settled m t true) { map = with_all m.map (fin.entries touched.writes) })
    settles link = (link m (settled t) (record (with_settled m t true) { map = with_all m.map (fin.entries touched.writes) })).1 settling

    pub entered : Link → Commits m t touched (record (with_settled m t true) { map = with_all m.map (fin.entries touched.writes) })
    entered link = subst (λ (o : Option Open). Settles m t o true (record (with_settled m t true) { map = with_all m.map (fin.entries touched.writes) })) is_open (settles link)

  -- The transaction is settled as committed, in the one session.
  pub commits : (t : Txn) → m.sessions ≡ fin.insert fin.empty one t → fin.get m.settled t ≡ Some true → Steps m (answered command.Commit (reply.Committed t)) (with_free m one)
  commits t session final = replies command.Commit (reply.Committed t) (with_free m one) (record {
    own = ap (λ (f : fin.FinMap session_cmp Txn). fin.get f one) session ∙ at_same session_cmp-total session_cmp-exact fin.empty one t;
    final = final;
    freed = refl;
  })

  pub freed : (t : Txn) → m.sessions ≡ fin.insert fin.empty one t → (with_free m one).sessions ≡ fin.empty
  freed t session =
      ap (λ (f : fin.FinMap session_cmp Txn). fin.remove f one) session
      ∙ taken_away session_cmp-total session_cmp-exact fin.empty one t (get-empty session_cmp one)

-- What a put sets, the rows have and the transaction sees.
pub rows_after_put : (rows : Rows) (m : machine.State) (touched : Open) (k : RowKey) (value : List ℕ) → ((q : RowKey) → fin.get rows q ≡ seen m touched q)
    → (q : RowKey) → fin.get (fin.insert rows k value) q ≡ seen m (record touched { writes = fin.insert touched.writes k (Some value) }) q
rows_after_put rows m touched k value same q =
    get-insert row_cmp-total rows k value q ∙ at_key (eq_by_cmp row_cmp q k)
    ∙ ap (λ (o : Option (Option (List ℕ))). or_mapped o (fin.get m.map q)) (sym (get-insert row_cmp-total touched.writes k (Some value) q))
  where
    at_key : (b : Bool) → cond b (Some value) (fin.get rows q) ≡ or_mapped (cond b (Some (Some value)) (fin.get touched.writes q)) (fin.get m.map q)
    at_key true = refl
    at_key false = same q
