-- What a step does to what a writer works on, as a row of small moves. A relation that holds of each of these moves,
-- of none, and of two in a row holds of every step: so each fact is shown once for each move.
use Rattle.std.proofs.Common.{◌≡◌, ◌<◌, ◌≤◌, ◌+◌, ◌-◌, ◌^◌, ℕ, Bool, true, false, List, [], ◌∷◌, ◌++◌, Option, Some, None, Result, Ok, Err, refl, ap, sym, subst, ◌∙◌, arith}
use Rattle.std.specs.Prelude.{nat_eq, nat_lt, nat_le, ◌&&◌, length, take, drop}
use Rattle.std.specs.FinMap as fin
use Rattle.std.specs.FinSet as sets
use Rattle.std.proofs.lemmas.Bool.Decides.{nat_tests}
use Rattle.tm_data.specs.declared.image.Image.{Image}
use Rattle.tm_data.specs.declared.log.Group.{Group}
use Rattle.tm_data.specs.declared.log.Record.{Record}
use Rattle.tm_data.specs.declared.row.Row.{Row}
use Rattle.tm_data.specs.declared.row_map.RowKey.{RowKey}
use Rattle.tm_data.specs.declared.transaction.Page.{Page}
use Rattle.tm_data.specs.declared.transaction.Stamp.{Stamp}
use Rattle.tm_data.specs.declared.transaction.Txn.{Txn}
use Rattle.tm_data.specs.declared.vector.VectorEntry.{VectorEntry}
use Rattle.tm_base.specs.declared.message.Tag.{Tag}
use Rattle.tm_base.specs.declared.reply.Reply.{Reply}
use Rattle.tm_base.specs.declared.reply.Reply.TheVariants as reply
use Rattle.page_model.specs.Effects.{page_of}
use Rattle.page_model.specs.Splits.{Refusal, TooHigh, Wanting, images_on, plan_of, is_full}
use Rattle.page_model.specs.Tree.{path_of}
use Rattle.vs_clock.specs.State.{heard_scalar, told, ticked}
use Rattle.log_writer.specs.Log.{Log, acked, appended, last_seq}
use Rattle.lease_desk.specs.Desk.{granted, is_held, is_ready, is_releasing, lease_of, recalled, released}
use Rattle.master_model.specs.declared.session.Own.{Own}
use Rattle.master_model.specs.declared.session.Progress.{Progress}
use Rattle.master_model.specs.declared.session.Progress.TheVariants.{Active, Undoing, Ended}
use Rattle.lock_table.specs.Tags.{same_txn, takes, with_tag, others_on, foreign_on}
use Rattle.master_model.specs.State.{Rows, Work, Answer, durable, settled}
use Rattle.master_model.specs.Fates as fates
use Rattle.master_model.specs.Fates.{Standing, Free, Locks, Unknown, hears, is_own, named, with_end, unless, or_later}
use Rattle.master_model.specs.Paths as paths
use Rattle.master_model.specs.Paths.{here, uses, last_of}
use Rattle.master_model.specs.Logging.{with_change, with_changes, with_group, next_group, logs, with_room, if_room, has_numbers, has_stamps}
use Rattle.master_model.specs.Reads as reads
use Rattle.master_model.specs.Reads.{with_session, txn_numbered}
use Rattle.master_model.specs.Writes as writes
use Rattle.master_model.specs.Writes.{Put, tags_after, with_written}
use Rattle.master_model.specs.Ends as ends
use Rattle.master_model.specs.Ends.{Awaited, awaited, free, end_of}
use Rattle.master_model.specs.Leases.{gives_back, takes_page, with_image}
use Rattle.master_model.specs.Acks.{ends_between, without_all, ends_in, lets_go}
use Rattle.master_model.specs.Facts.{Brought, Sessions, is_at_end}
use Rattle.master_model.proofs.PlanLemmas.{NoEnds, PlanHasNone, plan_has_none, undo_has_none}
use Rattle.master_model.proofs.AwaitedLemmas.{none_awaited}
use Rattle.master_model.proofs.LoggedLemmas.{change_front, changes_front, last_appended, leaf_held, logs_beside, logs_writer}

-- ---- the moves

-- So many groups more have numbers and stamps.
pub record HasRoom (w : Work) (count : ℕ) : Type 0 where
  pub numbers : last_seq w.log + count < 2 ^ 32 - 1
  pub stamps : w.clock.scalar + count ≤ 2 ^ 63 - 1

abbrev pub with_ack_of : Work → ℕ → ℕ → Work
with_ack_of w store seq = record w { log = acked w.log store seq }

abbrev pub without_ended : Work → ℕ → Work
without_ended w old = record w { tags = without_all w.tags (ends_between w.log old (durable w)) }

abbrev pub fresh_taken : Work → Page → Work
fresh_taken w page = record w {
  leases = granted w.leases page.0 1 (record { 0 = 0 });
  stock = w.stock ++ page ∷ [];
  fresh = w.fresh + 1;
  spent = false;
}

abbrev pub begun_in : Work → ℕ → Work
begun_in w session = with_session (record w { begun = w.begun + 1 }) session (record { number = w.begun + 1; written = fin.empty; progress = Active })

-- A session's transaction has its end in the log, as the next group.
abbrev pub ended_in : Work → ℕ → Own → Bool → Work
ended_in w session own committed =
    with_session (record w { clock = told (ticked w.clock); log = appended w.log (next_group w (end_of (txn_numbered w own.number) committed)) }) session
    (record own { progress = Ended committed (last_seq w.log + 1) })

-- What moves a writer only at a message: an acknowledgement, a grant, a fresh page, and that a page is recalled or given
-- back.
pub data Cause : Type 0 where
  Acked : (store seq : ℕ) → Cause
  Granted : (page : Page) (epoch : ℕ) (stamp : Stamp) (tags : List Tag) (vector : List VectorEntry) → Cause
  Fresh : (page : Page) → Cause
  GivenBack : (page : ℕ) → Cause

-- Where anything may come.
abbrev pub AnyCause : Work → Cause → Type 0
AnyCause w cause = Unit {0}

-- A relation that holds of each move, where what a message brings has a property.
pub record ClosedFor (G : Work → Cause → Type 0) (R : Work → Work → Type 0) : Type 0 where
  pub none : (w : Work) → R w w
  pub both : (a b c : Work) → R a b → R b c → R a c
  -- the clock
  pub hears_stamp : (w : Work) (stamp : ℕ) → stamp ≤ 2 ^ 63 - 1 → R w (record w { clock = heard_scalar w.clock stamp })
  pub hears_vector : (w : Work) (vector : List VectorEntry) → Brought vector → R w (hears w vector)
  -- the log
  pub acks : (w : Work) (store seq : ℕ) → nat_lt (durable w) (durable (with_ack_of w store seq)) ≡ false → G w (Acked store seq) → R w (with_ack_of w store seq)
  pub acks_more : (w : Work) (store seq : ℕ) → nat_lt (durable w) (durable (with_ack_of w store seq)) ≡ true → G w (Acked store seq)
      → R w (without_ended (with_ack_of w store seq) (durable w))
  -- durable groups go only where pages may be given back
  pub let_go : (w : Work) → ((page : ℕ) → G w (GivenBack page)) → R w (lets_go w)
  pub group : (w : Work) (records : List Record) → ends_in records ≡ [] → HasRoom w 1 → R w (record w { clock = told (ticked w.clock); log = appended w.log (next_group w records) })
  pub change : (w : Work) (r : Record) (stamp page : ℕ) → stamp ≡ w.clock.scalar → R w (with_change w r stamp (Some page))
  -- pages
  pub grant : (w : Work) (page : Page) (epoch : ℕ) (stamp : Stamp) (tags : List Tag) (vector : List VectorEntry)
      → nat_lt (lease_of w.leases page.0).epoch epoch ≡ true → Brought vector → stamp.0 ≤ 2 ^ 63 - 1 → G w (Granted page epoch stamp tags vector) → R w (takes_page w page epoch stamp tags vector)
  pub image : (w : Work) (image : Image) → is_held (lease_of w.leases image.page.0).state ≡ true → image.stamp.0 ≡ (lease_of w.leases image.page.0).stamp.0 → R w (with_image w image)
  pub fresh_page : (w : Work) (page : Page) → nat_lt 1024 page.0 && nat_eq (lease_of w.leases page.0).epoch 0 ≡ true → G w (Fresh page) → R w (fresh_taken w page)
  pub fresh_none : (w : Work) → R w (record w { fresh = w.fresh + 1; spent = true })
  pub recall : (w : Work) (page epoch : ℕ) → G w (GivenBack page) → R w (record w { leases = recalled w.leases page epoch })
  pub give_back : (w : Work) (page : ℕ) → is_ready (lease_of w.leases page) (settled w) ≡ true → G w (GivenBack page) → R w (gives_back w page)
  pub release : (w : Work) (page epoch : ℕ) → is_releasing (lease_of w.leases page).state && nat_eq (lease_of w.leases page).epoch epoch ≡ true → R w (record w { leases = released w.leases page epoch; left = fin.remove w.left page })
  pub path : (w : Work) (path : List Page) → R w (uses w path)
  -- fates
  pub end : (w : Work) (t : Txn) → is_own w t ≡ false → R w (with_end w t)
  pub mark : (w : Work) (t : Txn) → is_own w t ≡ false → sets.contains w.ended t ≡ false → R w (record w { told_open = sets.insert w.told_open t })
  pub name : (w : Work) (t : Txn) → R w (named w t)
  -- sessions and tags
  pub begin : (w : Work) (session : ℕ) → fin.get w.sessions session ≡ None → R w (begun_in w session)
  pub tag : (w : Work) (session page : ℕ) (key : List ℕ) (own : Own) → fin.get w.sessions session ≡ Some own → own.progress ≡ Active → is_held (lease_of w.leases page).state ≡ true
      → R w (record w { tags = with_tag w.tags page key (txn_numbered w own.number) })
  pub put : (w : Work) (p : Put) (leaf : Image) (path fresh : List Page) (count : ℕ) → fin.get w.sessions p.session ≡ Some p.own → fresh ≡ take count w.stock
      → R w (with_session (record w { tags = tags_after w.tags leaf path fresh; stock = drop (length fresh) w.stock }) p.session (with_written p.own p.table p.row.key))
  pub session : (w : Work) (session : ℕ) (own : Own) (rest : Rows) → fin.get w.sessions session ≡ Some own → is_at_end own.progress ≡ false → R w (with_session w session (record own { written = rest; progress = Undoing }))
  pub ends : (w : Work) (session : ℕ) (own : Own) (committed : Bool) → fin.get w.sessions session ≡ Some own → is_at_end own.progress ≡ false → HasRoom w 1 → R w (ended_in w session own committed)
  pub free : (w : Work) (session : ℕ) (own : Own) (committed : Bool) (seq : ℕ) → fin.get w.sessions session ≡ Some own → own.progress ≡ Ended committed seq → seq ≤ durable w → R w (free w session)

abbrev pub Closed : (Work → Work → Type 0) → Type 0
Closed R = ClosedFor AnyCause R

-- What an answer or an effect makes of it.
abbrev Stops : (Work → Work → Type 0) → Work → Option Answer → Type 0
Stops R w None = Unit {0}
Stops R w (Some a) = R w a.work

-- ---- groups

pub room_left : (w : Work) (g : Group) (count : ℕ) → HasRoom w (count + 1) → HasRoom (with_changes (record w { clock = told (ticked w.clock); log = appended w.log g }) g.records g.stamp.0) count
room_left w g count room =
    let base : Work = record w { clock = told (ticked w.clock); log = appended w.log g } in
    let same = changes_front base g.records g.stamp.0 in
    let longer : last_seq base.log ≡ last_seq w.log + 1 = last_appended w.log g in
    record {
      numbers = omega (arith, room.numbers, longer, ap (λ (l : Log). last_seq l) same.0);
      stamps = omega (arith, room.stamps, ap (λ (s : _). s.scalar) same.1);
    }

rooms_left : (w : Work) (groups : List (List Record)) (count : ℕ) → HasRoom w (length groups + count) → HasRoom (logs w groups).work count
rooms_left w [] count room = record { numbers = omega (arith, room.numbers); stamps = omega (arith, room.stamps) }
rooms_left w (r ∷ rs) count room =
    rooms_left (with_group w (next_group w r)) rs count (room_left w (next_group w r) (length rs + count) (record { numbers = omega (arith, room.numbers); stamps = omega (arith, room.stamps) }))

-- The end is logged last.
end_last : (w : Work) (undone : List (List Record)) (records : List Record) → (logs w (undone ++ records ∷ [])).work ≡ with_group (logs w undone).work (next_group (logs w undone).work records)
end_last w [] records = refl
end_last w (r ∷ rs) records = end_last (with_group w (next_group w r)) rs records

module _ {G : Work → Cause → Type 0} {R : Work → Work → Type 0} (c : ClosedFor G R) where
  change_moves : (w : Work) (r : Record) (stamp : ℕ) (o : Option ℕ) → stamp ≡ w.clock.scalar → R w (with_change w r stamp o)
  change_moves w r stamp None is = c.none w
  change_moves w r stamp (Some page) is = c.change w r stamp page is

  changes_move : (w : Work) (rs : List Record) (stamp : ℕ) → stamp ≡ w.clock.scalar → R w (with_changes w rs stamp)
  changes_move w [] stamp is = c.none w
  changes_move w (r ∷ rs) stamp is =
      let next : Work = with_change w r stamp (page_of r) in
      c.both w next (with_changes next rs stamp) (change_moves w r stamp (page_of r) is)
      (changes_move next rs stamp (is ∙ sym (ap (λ (s : _). s.scalar) (change_front w r stamp (page_of r)).1)))

  pub group_moves : (w : Work) (rs : List Record) → ends_in rs ≡ [] → HasRoom w 1 → R w (with_group w (next_group w rs))
  group_moves w rs none room =
      let base : Work = record w { clock = told (ticked w.clock); log = appended w.log (next_group w rs) } in
      c.both w base (with_group w (next_group w rs)) (c.group w rs none room) (changes_move base rs (w.clock.scalar + 1) refl)

  pub logs_moves : (w : Work) (groups : List (List Record)) → NoEnds groups → HasRoom w (length groups) → R w (logs w groups).work
  logs_moves w [] none room = c.none w
  logs_moves w (r ∷ rs) none room =
      let next : Work = with_group w (next_group w r) in
      let more : HasRoom w (length rs + 1) = record { numbers = omega (arith, room.numbers); stamps = omega (arith, room.stamps) } in
      c.both w next (logs next rs).work (group_moves w r none.0 (record { numbers = omega (arith, room.numbers); stamps = omega (arith, room.stamps) }))
      (logs_moves next rs none.1 (room_left w (next_group w r) (length rs) more))

  room_moves : (w : Work) (count : ℕ) (a : Answer) → (HasRoom w count → R w a.work) → R w (with_room w count a).work
  room_moves w count a h = by (has_numbers w count) (has_stamps w count) refl refl
    where
      by : (b d : Bool) → has_numbers w count ≡ b → has_stamps w count ≡ d → R w (if_room w b d a).work
      by false d is_b is_d = c.none w
      by true false is_b is_d = c.none w
      by true true is_b is_d = h (record { numbers = grind (arith, nat_tests); stamps = grind (arith, nat_tests) })

  -- ---- what stands in the way

  unless_moves : (w : Work) (o : Option Answer) (a : Answer) → Stops R w o → R w a.work → R w (unless o a).work
  unless_moves w None a stops goes = goes
  unless_moves w (Some b) a stops goes = stops

  blocked_moves : (w : Work) (t : Txn) (locked : Reply) → Stops R w (fates.blocked w t locked)
  blocked_moves w t locked = by (fates.standing w t)
    where
      by : (s : Standing) → Stops R w (fates.blocked_by w t locked s)
      by Free = tt
      by Locks = c.name w t
      by Unknown = c.none w

  later_moves : (w : Work) (o later : Option Answer) → Stops R w o → Stops R w later → Stops R w (or_later o later)
  later_moves w None later a b = b
  later_moves w (Some x) later a b = a

  tags_move : (w : Work) (words : Tag → Reply) (ts : List Tag) → Stops R w (fates.blocked_by_tags w words ts)
  tags_move w words [] = tt
  tags_move w words (t ∷ ts) =
      later_moves w (fates.blocked w t.txn (words t)) (fates.blocked_by_tags w words ts) (blocked_moves w t.txn (words t)) (tags_move w words ts)

  -- ---- along a path

  found_moves : (w : Work) (table : ℕ) (key : List ℕ) (goes_on : Work → List Page → Image → Answer)
      → ((path : List Page) (leaf : Image) → is_held (lease_of w.leases leaf.page.0).state ≡ true → R (uses w path) (goes_on (uses w path) path leaf).work) → R w (paths.on_path w table key goes_on).work
  found_moves w table key goes_on h = by (path_of (here w) table key)
    where
      leaf_by : (path : List Page) (o : Option Image) → last_of None (images_on (here w) path) ≡ o → R w (paths.at_leaf w o (goes_on (uses w path) path)).work
      leaf_by path None is = c.none w
      leaf_by path (Some leaf) is = c.both w (uses w path) (goes_on (uses w path) path leaf).work (c.path w path) (h path leaf (leaf_held w path leaf is))

      by : (r : Result (List Page) Page) → R w (paths.on_found w r goes_on).work
      by (Err page) = c.none w
      by (Ok path) = leaf_by path (last_of None (images_on (here w) path)) refl

  -- ---- in a session

  session_moves : (w : Work) (session : ℕ) (goes_on : Own → Answer) → ((own : Own) → fin.get w.sessions session ≡ Some own → R w (goes_on own).work) → R w (reads.in_session w session goes_on).work
  session_moves w session goes_on h = by (fin.get w.sessions session) refl
    where
      by : (o : Option Own) → fin.get w.sessions session ≡ o → R w (reads.on_session w o goes_on).work
      by None is = c.none w
      by (Some own) is = h own is

  active_moves : (w : Work) (t : Txn) (p : Progress) (a : Answer) → (p ≡ Active → R w a.work) → R w (reads.if_active w t p a).work
  active_moves w t Active a h = h refl
  active_moves w t other a h = c.none w

  named_moves : (w : Work) (table : ℕ) (key : List ℕ) (a : Answer) → R w a.work → R w (reads.if_named w table key a).work
  named_moves w table key a h = by (reads.is_table table) (nat_le (length key) 64)
    where
      by : (b d : Bool) → R w (reads.if_table w table b (reads.if_key w key d a)).work
      by false d = c.none w
      by true false = c.none w
      by true true = h

  pub begin_moves : (w : Work) (session : ℕ) → R w (reads.begin w session).work
  begin_moves w session = by (fin.get w.sessions session) refl
    where
      new : (b : Bool) → fin.get w.sessions session ≡ None → R w (reads.begins w session b).work
      new false is = c.none w
      new true is = c.begin w session is

      by : (o : Option Own) → fin.get w.sessions session ≡ o → R w (reads.begins_beside w session o).work
      by None is = new (nat_lt (w.begun + 1) (2 ^ 32 - 1)) is
      by (Some own) is = c.none w

  -- ---- get

  reads_move : (w : Work) (session page : ℕ) (key : List ℕ) (own : Own) (value : Option (List ℕ)) (b : Bool) → fin.get w.sessions session ≡ Some own → own.progress ≡ Active
      → is_held (lease_of w.leases page).state ≡ true → R w (reads.reads_if w page key (txn_numbered w own.number) value b).work
  reads_move w session page key own value false is active held = c.none w
  reads_move w session page key own value true is active held = c.tag w session page key own is active held

  get_moves_of : (w : Work) (session : ℕ) (leaf : Image) (key : List ℕ) (own : Own) (row : Row) (b : Bool) → fin.get w.sessions session ≡ Some own → own.progress ≡ Active
      → is_held (lease_of w.leases leaf.page.0).state ≡ true → R w (reads.get_of w leaf key (txn_numbered w own.number) row b).work
  get_moves_of w session leaf key own row true is active held = c.none w
  get_moves_of w session leaf key own row false is active held =
      unless_moves w (fates.blocked w row.txn (reply.LockedRow row.txn key)) (reads.reads w leaf.page.0 key (txn_numbered w own.number) row.now) (blocked_moves w row.txn (reply.LockedRow row.txn key))
      (reads_move w session leaf.page.0 key own row.now (takes w.tags leaf.page.0 key (txn_numbered w own.number)) is active held)

  pub get_moves : (w : Work) (session table : ℕ) (key : List ℕ) → R w (reads.get w session table key).work
  get_moves w session table key =
      session_moves w session _ (λ own is.
      active_moves w (txn_numbered w own.number) own.progress _ (λ active.
      named_moves w table key _
      (found_moves w table key (reads.get_at key (txn_numbered w own.number)) (λ path leaf held. at (uses w path) own leaf (paths.row_at leaf key) is active held))))
    where
      at : (u : Work) (own : Own) (leaf : Image) (o : Option Row) → fin.get u.sessions session ≡ Some own → own.progress ≡ Active → is_held (lease_of u.leases leaf.page.0).state ≡ true
          → R u (reads.get_row u leaf key (txn_numbered u own.number) o).work
      at u own leaf None is active held = reads_move u session leaf.page.0 key own None (takes u.tags leaf.page.0 key (txn_numbered u own.number)) is active held
      at u own leaf (Some row) is active held = get_moves_of u session leaf key own row (same_txn row.txn (txn_numbered u own.number)) is active held

  -- ---- put and del

  put_logs : (w : Work) (p : Put) (path : List Page) (leaf : Image) (fresh : List Page) (groups : List (List Record)) (count : ℕ) → NoEnds groups → fin.get w.sessions p.session ≡ Some p.own → fresh ≡ take count w.stock
      → R w (writes.put_planned p w path leaf fresh groups).work
  put_logs w p path leaf fresh groups count none is some = by (writes.first_missing (here w) fresh)
    where
      by : (o : Option Page) → R w (writes.if_here w o (with_room w (length groups) (writes.put_logged p leaf path fresh (logs w groups)))).work
      by (Some page) = c.none w
      by None = room_moves w (length groups) (writes.put_logged p leaf path fresh (logs w groups)) (λ room.
          c.both w (logs w groups).work _ (logs_moves w groups none room) (c.put (logs w groups).work p leaf path fresh count
          (ap (λ (m : Sessions). fin.get m p.session) (logs_beside w groups).0 ∙ is) (some ∙ ap (λ (ps : List Page). take count ps) (sym (logs_beside w groups).1))))

  put_plans : (w : Work) (p : Put) (path : List Page) (leaf : Image) (r : Result (List (List Record)) Refusal) → PlanHasNone r → fin.get w.sessions p.session ≡ Some p.own → R w (writes.put_by p w path leaf r).work
  put_plans w p path leaf (Err TooHigh) none is = c.none w
  put_plans w p path leaf (Err (Wanting wanting)) none is = by w.spent
    where
      by : (b : Bool) → R w (writes.wants_fresh w wanting b).work
      by true = c.none w
      by false = c.none w
  put_plans w p path leaf (Ok groups) none is = put_logs w p path leaf (take (writes.fresh_needed w path p.row) w.stock) groups (writes.fresh_needed w path p.row) none is refl

  put_frees : (w : Work) (p : Put) (path : List Page) (leaf : Image) → fin.get w.sessions p.session ≡ Some p.own → R w (writes.put_free p w path leaf).work
  put_frees w p path leaf is =
      unless_moves w (writes.blocked_if_full w leaf.page.0 (is_full p.row leaf.body)) _ (by (is_full p.row leaf.body))
      (put_plans w p path leaf (plan_of (here w) path p.row w.stock (w.clock.scalar + 1)) (plan_has_none (here w) path p.row w.stock (w.clock.scalar + 1)) is)
    where
      by : (b : Bool) → Stops R w (writes.blocked_if_full w leaf.page.0 b)
      by false = tt
      by true = tags_move w (λ t. reply.LockedSplit t.txn t.key) (foreign_on w.tags leaf.page.0 w.log.writer.0)

  put_rows : (w : Work) (session : ℕ) (own : Own) (table : ℕ) (key : List ℕ) (value : Option (List ℕ)) (path : List Page) (leaf : Image) (old : Option Row)
      → fin.get w.sessions session ≡ Some own → R w (writes.put_row session own table key value w path leaf old).work
  put_rows w session own table key value path leaf old is =
      let t = txn_numbered w own.number in
      unless_moves w (writes.blocked_by_row w key t old) _ (by old)
      (unless_moves w (writes.blocked_by_readers w leaf.page.0 key t) _ (tags_move w (λ t. reply.LockedRow t.txn key) (others_on w.tags leaf.page.0 key t))
      (put_frees w (record { session = session; own = own; table = table; row = writes.row_put key t value old }) path leaf is))
    where
      other : (row : Row) (b : Bool) → Stops R w (writes.blocked_by_other w key row b)
      other row true = tt
      other row false = blocked_moves w row.txn (reply.LockedRow row.txn key)

      by : (o : Option Row) → Stops R w (writes.blocked_by_row w key (txn_numbered w own.number) o)
      by None = tt
      by (Some row) = other row (same_txn row.txn (txn_numbered w own.number))

  value_moves : (w : Work) (value : Option (List ℕ)) (a : Answer) → R w a.work → R w (writes.if_value w value a).work
  value_moves w None a h = h
  value_moves w (Some value) a h = by (nat_le (length value) 512)
    where
      by : (b : Bool) → R w (writes.if_short w value b a).work
      by false = c.none w
      by true = h

  pub put_moves : (w : Work) (session table : ℕ) (key : List ℕ) (value : Option (List ℕ)) → R w (writes.put w session table key value).work
  put_moves w session table key value =
      session_moves w session _ (λ own is.
      active_moves w (txn_numbered w own.number) own.progress _ (λ active.
      named_moves w table key _ (value_moves w value _
      (found_moves w table key (writes.put_at session own table key value) (λ path leaf held.
      put_rows (uses w path) session own table key value path leaf (paths.row_at leaf key) is)))))

  -- ---- commit and abort

  end_logs : (w : Work) (session : ℕ) (own : Own) (committed : Bool) (undone : List (List Record)) (count : ℕ) → length undone + 1 ≡ count → NoEnds undone → fin.get w.sessions session ≡ Some own
      → is_at_end own.progress ≡ false → R w (with_room w count (ends.ends session own committed (logs w (undone ++ end_of (txn_numbered w own.number) committed ∷ [])))).work
  end_logs w session own committed undone count is none there going = room_moves w count _ (λ room.
      let u : Work = (logs w undone).work in
      let both : HasRoom w (length undone + 1) = subst (HasRoom w) (sym is) room in
      let first : R w u = logs_moves w undone none (record { numbers = omega (arith, both.numbers); stamps = omega (arith, both.stamps) }) in
      let last : R u (ended_in u session own committed) = c.ends u session own committed (ap (λ (m : Sessions). fin.get m session) (logs_beside w undone).0 ∙ there) going (rooms_left w undone 1 both) in
      subst (λ (x : Work). R w (with_session x session (record own { progress = Ended committed (last_seq x.log) }))) (sym (end_last w undone (end_of (txn_numbered w own.number) committed)))
      (c.both w u _ first (as_ended u session own committed (end_of (txn_numbered w own.number) committed) (ap (λ (x : _). end_of (record { writer = x; number = own.number }) committed) (logs_writer w undone)) last)))
    where
      as_ended : (u : Work) (session : ℕ) (own : Own) (committed : Bool) (records : List Record) → end_of (txn_numbered u own.number) committed ≡ records → R u (ended_in u session own committed)
          → R u (with_session (with_group u (next_group u records)) session (record own { progress = Ended committed (last_seq (with_group u (next_group u records)).log) }))
      as_ended u session own committed records is last = subst (λ (rs : List Record). R u (with_session (with_group u (next_group u rs)) session (record own { progress = Ended committed (last_seq (with_group u (next_group u rs)).log) }))) is
          (subst (λ (n : ℕ). R u (with_session (with_group u (next_group u (end_of (txn_numbered u own.number) committed))) session (record own { progress = Ended committed n }))) (sym (last_appended u.log _)) last)

  answers_move : (w : Work) (session : ℕ) (own : Own) (committed : Bool) (seq : ℕ) (over : Reply) → fin.get w.sessions session ≡ Some own → own.progress ≡ Ended committed seq
      → R w (ends.answers_end w session over (awaited w seq)).work
  answers_move w session own committed seq over is at = by (awaited w seq) refl
    where
      by : (o : Awaited) → awaited w seq ≡ o → R w (ends.answers_end w session over o).work
      by None none = c.free w session own committed seq is at (none_awaited w seq none)
      by (Some (store, n)) none = c.none w

  pub commit_moves : (w : Work) (session : ℕ) → R w (ends.commit w session).work
  commit_moves w session = session_moves w session _ (λ own is. by own is own.progress refl)
    where
      by : (own : Own) → fin.get w.sessions session ≡ Some own → (p : Progress) → own.progress ≡ p → R w (ends.commits w session own (txn_numbered w own.number) p).work
      by own is Active at = end_logs w session own true [] 1 refl tt is (ap is_at_end at)
      by own is (Ended true seq) at = answers_move w session own true seq (reply.Committed (txn_numbered w own.number)) is at
      by own is (Ended false seq) at = c.none w
      by own is Undoing at = c.none w

  abort_with : (w : Work) (session : ℕ) (own : Own) (rest : Rows) (undone : List (List Record)) (left : List RowKey) → NoEnds undone → fin.get w.sessions session ≡ Some own → is_at_end own.progress ≡ false
      → R w (ends.aborts_with w session own (txn_numbered w own.number) rest undone left).work
  abort_with w session own rest undone [] none is going = end_logs w session own false undone (length undone + 1) refl none is going
  abort_with w session own rest undone (k ∷ ks) none is going = room_moves w (length undone) _ (λ room.
      c.both w (logs w undone).work _ (logs_moves w undone none room)
      (c.session (logs w undone).work session own rest (ap (λ (m : Sessions). fin.get m session) (logs_beside w undone).0 ∙ is) going))

  abort_rows : (w : Work) (session : ℕ) (own : Own) (left : List RowKey) → fin.get w.sessions session ≡ Some own → is_at_end own.progress ≡ false
      → R w (ends.aborts_rows w session own (txn_numbered w own.number) left).work
  abort_rows w session own [] is going = abort_with w session own own.written [] [] tt is going
  abort_rows w session own (k ∷ ks) is going =
      let t : Txn = txn_numbered w own.number in
      found_moves w k.table k.key (λ used path leaf. ends.aborts_with used session own t (fin.remove own.written k) (ends.undo leaf k.table k.key t) ks) (λ path leaf held.
      abort_with (uses w path) session own (fin.remove own.written k) (ends.undo leaf k.table k.key t) ks (undo_has_none leaf k.table k.key t) is going)

  pub abort_moves : (w : Work) (session : ℕ) → R w (ends.abort w session).work
  abort_moves w session = session_moves w session _ (λ own is. by own is own.progress refl)
    where
      by : (own : Own) → fin.get w.sessions session ≡ Some own → (p : Progress) → own.progress ≡ p → R w (ends.aborts w session own (txn_numbered w own.number) p).work
      by own is Active at = abort_rows w session own (fin.keys own.written) is (ap is_at_end at)
      by own is Undoing at = abort_rows w session own (fin.keys own.written) is (ap is_at_end at)
      by own is (Ended false seq) at = answers_move w session own false seq (reply.Aborted (txn_numbered w own.number)) is at
      by own is (Ended true seq) at = c.none w

  pub undo_moves : (w : Work) (table : ℕ) (key : List ℕ) (t : Txn) → R w (ends.undo_next w table key t).work
  undo_moves w table key t = found_moves w table key (λ used path leaf. ends.undoes (ends.undo leaf table key t) used) (λ path leaf held.
      room_moves (uses w path) (length (ends.undo leaf table key t)) _ (λ room. logs_moves (uses w path) (ends.undo leaf table key t) (undo_has_none leaf table key t) room))
