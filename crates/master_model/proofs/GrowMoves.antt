-- What holds of a writer's work and of all groups that it ever logged, as it is shown for each small move.
use Rattle.std.proofs.Common.{◌≡◌, ◌≤◌, ◌+◌, ◌-◌, ◌^◌, ℕ, Bool, true, false, List, [], ◌∷◌, ◌++◌, Some, None, sym, subst, append_assoc}
use Rattle.std.specs.Prelude.{nat_eq, nat_lt, ◌&&◌, length, take, drop}
use Rattle.std.specs.FinMap as fin
use Rattle.std.specs.FinSet as sets
use Rattle.std.proofs.lemmas.List.{append-nil}
use Rattle.tm_data.specs.declared.image.Image.{Image}
use Rattle.tm_data.specs.declared.log.Group.{Group}
use Rattle.tm_data.specs.declared.log.Record.{Record}
use Rattle.tm_data.specs.declared.row_map.RowKey.{RowKey}
use Rattle.tm_data.specs.declared.transaction.Page.{Page}
use Rattle.tm_data.specs.declared.transaction.Stamp.{Stamp}
use Rattle.tm_data.specs.declared.transaction.Txn.{Txn}
use Rattle.tm_data.specs.declared.vector.VectorEntry.{VectorEntry}
use Rattle.tm_base.specs.declared.message.Tag.{Tag}
use Rattle.vs_clock.specs.State.{heard_scalar, told, ticked}
use Rattle.log_writer.specs.Log.{appended}
use Rattle.lease_desk.specs.Desk.{is_held, is_ready, is_releasing, lease_of, recalled, released}
use Rattle.master_model.specs.declared.session.Own.{Own}
use Rattle.master_model.specs.declared.session.Progress.TheVariants.{Active, Undoing, Ended}
use Rattle.lock_table.specs.Tags.{with_tag}
use Rattle.master_model.specs.State.{Rows, Work, durable, settled}
use Rattle.master_model.specs.Fates.{hears, is_own, named, with_end}
use Rattle.master_model.specs.Paths.{uses}
use Rattle.master_model.specs.Logging.{with_change, next_group}
use Rattle.master_model.specs.Reads.{with_session, txn_numbered}
use Rattle.master_model.specs.Writes.{Put, tags_after, with_written}
use Rattle.master_model.specs.Ends.{end_of, free}
use Rattle.master_model.specs.Leases.{gives_back, takes_page, with_image}
use Rattle.master_model.specs.Acks.{ends_in, lets_go}
use Rattle.master_model.specs.Facts.{Brought, is_at_end}
use Rattle.master_model.proofs.Moves.{Cause, Acked, Granted, Fresh, GivenBack, ClosedFor, HasRoom, begun_in, ended_in, fresh_taken, with_ack_of, without_ended}

-- What holds of a work and of its groups holds after each move, of these groups and of the one that the move logs.
pub record GrowsFor (G : Work → Cause → Type 0) (K : List Group → Work → Type 0) : Type 0 where
  pub hears_stamp : (w : Work) (stamp : ℕ) → stamp ≤ 2 ^ 63 - 1 → (gs : List Group) → K gs w → K gs (record w { clock = heard_scalar w.clock stamp })
  pub hears_vector : (w : Work) (vector : List VectorEntry) → Brought vector → (gs : List Group) → K gs w → K gs (hears w vector)
  pub acks : (w : Work) (store seq : ℕ) → nat_lt (durable w) (durable (with_ack_of w store seq)) ≡ false → G w (Acked store seq) → (gs : List Group) → K gs w → K gs (with_ack_of w store seq)
  pub acks_more : (w : Work) (store seq : ℕ) → nat_lt (durable w) (durable (with_ack_of w store seq)) ≡ true → G w (Acked store seq) → (gs : List Group) → K gs w
      → K gs (without_ended (with_ack_of w store seq) (durable w))
  pub let_go : (w : Work) → ((page : ℕ) → G w (GivenBack page)) → (gs : List Group) → K gs w → K gs (lets_go w)
  pub group : (w : Work) (records : List Record) → ends_in records ≡ [] → HasRoom w 1 → (gs : List Group) → K gs w
      → K (gs ++ next_group w records ∷ []) (record w { clock = told (ticked w.clock); log = appended w.log (next_group w records) })
  pub change : (w : Work) (r : Record) (stamp page : ℕ) → stamp ≡ w.clock.scalar → (gs : List Group) → K gs w → K gs (with_change w r stamp (Some page))
  pub grant : (w : Work) (page : Page) (epoch : ℕ) (stamp : Stamp) (tags : List Tag) (vector : List VectorEntry)
      → nat_lt (lease_of w.leases page.0).epoch epoch ≡ true → Brought vector → stamp.0 ≤ 2 ^ 63 - 1 → G w (Granted page epoch stamp tags vector) → (gs : List Group) → K gs w → K gs (takes_page w page epoch stamp tags vector)
  pub image : (w : Work) (image : Image) → is_held (lease_of w.leases image.page.0).state ≡ true → image.stamp.0 ≡ (lease_of w.leases image.page.0).stamp.0 → (gs : List Group) → K gs w → K gs (with_image w image)
  pub fresh_page : (w : Work) (page : Page) → nat_lt 1024 page.0 && nat_eq (lease_of w.leases page.0).epoch 0 ≡ true → G w (Fresh page) → (gs : List Group) → K gs w → K gs (fresh_taken w page)
  pub fresh_none : (w : Work) (gs : List Group) → K gs w → K gs (record w { fresh = w.fresh + 1; spent = true })
  pub recall : (w : Work) (page epoch : ℕ) → G w (GivenBack page) → (gs : List Group) → K gs w → K gs (record w { leases = recalled w.leases page epoch })
  pub give_back : (w : Work) (page : ℕ) → is_ready (lease_of w.leases page) (settled w) ≡ true → G w (GivenBack page) → (gs : List Group) → K gs w → K gs (gives_back w page)
  pub release : (w : Work) (page epoch : ℕ) → is_releasing (lease_of w.leases page).state && nat_eq (lease_of w.leases page).epoch epoch ≡ true → (gs : List Group) → K gs w
      → K gs (record w { leases = released w.leases page epoch; left = fin.remove w.left page })
  pub path : (w : Work) (path : List Page) (gs : List Group) → K gs w → K gs (uses w path)
  pub end : (w : Work) (t : Txn) → is_own w t ≡ false → (gs : List Group) → K gs w → K gs (with_end w t)
  pub mark : (w : Work) (t : Txn) → is_own w t ≡ false → sets.contains w.ended t ≡ false → (gs : List Group) → K gs w → K gs (record w { told_open = sets.insert w.told_open t })
  pub name : (w : Work) (t : Txn) (gs : List Group) → K gs w → K gs (named w t)
  pub begin : (w : Work) (session : ℕ) → fin.get w.sessions session ≡ None → (gs : List Group) → K gs w → K gs (begun_in w session)
  pub tag : (w : Work) (session page : ℕ) (key : List ℕ) (own : Own) → fin.get w.sessions session ≡ Some own → own.progress ≡ Active → is_held (lease_of w.leases page).state ≡ true → (gs : List Group) → K gs w
      → K gs (record w { tags = with_tag w.tags page key (txn_numbered w own.number) })
  pub put : (w : Work) (p : Put) (leaf : Image) (path fresh : List Page) (count : ℕ) → fin.get w.sessions p.session ≡ Some p.own → fresh ≡ take count w.stock → (gs : List Group) → K gs w
      → K gs (with_session (record w { tags = tags_after w.tags leaf path fresh; stock = drop (length fresh) w.stock }) p.session (with_written p.own p.table p.row.key))
  pub session : (w : Work) (session : ℕ) (own : Own) (rest : Rows) → fin.get w.sessions session ≡ Some own → is_at_end own.progress ≡ false → (gs : List Group) → K gs w
      → K gs (with_session w session (record own { written = rest; progress = Undoing }))
  pub ends : (w : Work) (session : ℕ) (own : Own) (committed : Bool) → fin.get w.sessions session ≡ Some own → is_at_end own.progress ≡ false → HasRoom w 1 → (gs : List Group) → K gs w
      → K (gs ++ next_group w (end_of (txn_numbered w own.number) committed) ∷ []) (ended_in w session own committed)
  pub free : (w : Work) (session : ℕ) (own : Own) (committed : Bool) (seq : ℕ) → fin.get w.sessions session ≡ Some own → own.progress ≡ Ended committed seq → seq ≤ durable w → (gs : List Group) → K gs w → K gs (free w session)

-- So it holds after a step, of these groups and of some more.
abbrev pub Grown : (List Group → Work → Type 0) → Work → Work → Type 0
Grown K a b = (gs : List Group) → K gs a → (more : List Group) × K (gs ++ more) b

still : (K : List Group → Work → Type 0) (w : Work) (gs : List Group) → K gs w → (more : List Group) × K (gs ++ more) w
still K w gs h = ([], subst (λ (x : List Group). K x w) (sym (append-nil gs)) h)

grown_both : (K : List Group → Work → Type 0) (a b c : Work) → Grown K a b → Grown K b c → Grown K a c
grown_both K a b c h k gs x =
    let one = h gs x in
    let two = k (gs ++ one.0) one.1 in (one.0 ++ two.0, subst (λ (y : List Group). K y c) (append_assoc gs one.0 two.0) two.1)

pub grown_moves : {G : Work → Cause → Type 0} {K : List Group → Work → Type 0} → GrowsFor G K → ClosedFor G (Grown K)
grown_moves {G} {K} m = record {
  none = λ w gs h. still K w gs h;
  both = grown_both K;
  hears_stamp = λ w stamp fits gs h. still K _ gs (m.hears_stamp w stamp fits gs h);
  hears_vector = λ w vector brought gs h. still K _ gs (m.hears_vector w vector brought gs h);
  acks = λ w store seq is came gs h. still K _ gs (m.acks w store seq is came gs h);
  acks_more = λ w store seq is came gs h. still K _ gs (m.acks_more w store seq is came gs h);
  let_go = λ w may gs h. still K _ gs (m.let_go w may gs h);
  group = λ w records none room gs h. (next_group w records ∷ [], m.group w records none room gs h);
  change = λ w r stamp page is gs h. still K _ gs (m.change w r stamp page is gs h);
  grant = λ w page epoch stamp tags vector new brought fits granted gs h. still K _ gs (m.grant w page epoch stamp tags vector new brought fits granted gs h);
  image = λ w image held same gs h. still K _ gs (m.image w image held same gs h);
  fresh_page = λ w page is came gs h. still K _ gs (m.fresh_page w page is came gs h);
  fresh_none = λ w gs h. still K _ gs (m.fresh_none w gs h);
  recall = λ w page epoch came gs h. still K _ gs (m.recall w page epoch came gs h);
  give_back = λ w page is came gs h. still K _ gs (m.give_back w page is came gs h);
  release = λ w page epoch is gs h. still K _ gs (m.release w page epoch is gs h);
  path = λ w path gs h. still K _ gs (m.path w path gs h);
  end = λ w t is gs h. still K _ gs (m.end w t is gs h);
  mark = λ w t is known gs h. still K _ gs (m.mark w t is known gs h);
  name = λ w t gs h. still K _ gs (m.name w t gs h);
  begin = λ w session is gs h. still K _ gs (m.begin w session is gs h);
  tag = λ w session page key own is active held gs h. still K _ gs (m.tag w session page key own is active held gs h);
  put = λ w p leaf path fresh count is some gs h. still K _ gs (m.put w p leaf path fresh count is some gs h);
  session = λ w session own left is going gs h. still K _ gs (m.session w session own left is going gs h);
  ends = λ w session own committed is going room gs h. (next_group w (end_of (txn_numbered w own.number) committed) ∷ [], m.ends w session own committed is going room gs h);
  free = λ w session own committed seq is at durable gs h. still K _ gs (m.free w session own committed seq is at durable gs h);
}

-- Two things that hold so hold so together.
pub both_grow : {G : Work → Cause → Type 0} {K J : List Group → Work → Type 0} → GrowsFor G K → GrowsFor G J → GrowsFor G (λ gs w. K gs w × J gs w)
both_grow m n = record {
  hears_stamp = λ w stamp fits gs h. (m.hears_stamp w stamp fits gs h.0, n.hears_stamp w stamp fits gs h.1);
  hears_vector = λ w vector brought gs h. (m.hears_vector w vector brought gs h.0, n.hears_vector w vector brought gs h.1);
  acks = λ w store seq is came gs h. (m.acks w store seq is came gs h.0, n.acks w store seq is came gs h.1);
  acks_more = λ w store seq is came gs h. (m.acks_more w store seq is came gs h.0, n.acks_more w store seq is came gs h.1);
  let_go = λ w may gs h. (m.let_go w may gs h.0, n.let_go w may gs h.1);
  group = λ w records none room gs h. (m.group w records none room gs h.0, n.group w records none room gs h.1);
  change = λ w r stamp page is gs h. (m.change w r stamp page is gs h.0, n.change w r stamp page is gs h.1);
  grant = λ w page epoch stamp tags vector new brought fits granted gs h. (m.grant w page epoch stamp tags vector new brought fits granted gs h.0, n.grant w page epoch stamp tags vector new brought fits granted gs h.1);
  image = λ w image held same gs h. (m.image w image held same gs h.0, n.image w image held same gs h.1);
  fresh_page = λ w page is came gs h. (m.fresh_page w page is came gs h.0, n.fresh_page w page is came gs h.1);
  fresh_none = λ w gs h. (m.fresh_none w gs h.0, n.fresh_none w gs h.1);
  recall = λ w page epoch came gs h. (m.recall w page epoch came gs h.0, n.recall w page epoch came gs h.1);
  give_back = λ w page is came gs h. (m.give_back w page is came gs h.0, n.give_back w page is came gs h.1);
  release = λ w page epoch is gs h. (m.release w page epoch is gs h.0, n.release w page epoch is gs h.1);
  path = λ w path gs h. (m.path w path gs h.0, n.path w path gs h.1);
  end = λ w t is gs h. (m.end w t is gs h.0, n.end w t is gs h.1);
  mark = λ w t is known gs h. (m.mark w t is known gs h.0, n.mark w t is known gs h.1);
  name = λ w t gs h. (m.name w t gs h.0, n.name w t gs h.1);
  begin = λ w session is gs h. (m.begin w session is gs h.0, n.begin w session is gs h.1);
  tag = λ w session page key own is active held gs h. (m.tag w session page key own is active held gs h.0, n.tag w session page key own is active held gs h.1);
  put = λ w p leaf path fresh count is some gs h. (m.put w p leaf path fresh count is some gs h.0, n.put w p leaf path fresh count is some gs h.1);
  session = λ w session own left is going gs h. (m.session w session own left is going gs h.0, n.session w session own left is going gs h.1);
  ends = λ w session own committed is going room gs h. (m.ends w session own committed is going room gs h.0, n.ends w session own committed is going room gs h.1);
  free = λ w session own committed seq is at durable gs h. (m.free w session own committed seq is at durable gs h.0, n.free w session own committed seq is at durable gs h.1);
}
