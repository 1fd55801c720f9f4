-- What a message, a command and a tick do to what a writer works on, as small moves.
use Rattle.std.proofs.Common.{ap, ◌∙◌, ◌≡◌, ◌≤◌, ◌+◌, ◌-◌, ◌^◌, ℕ, Bool, true, false, List, [], ◌∷◌, ◌++◌, Option, Some, None, refl, sym, subst, cond, arith}
use Rattle.std.specs.Prelude.{nat_eq, nat_lt, nat_le, ◌&&◌, ◌||◌, length}
use Rattle.std.specs.List.{AllByRecursion}
use Rattle.std.specs.FinSet as sets
use Rattle.std.proofs.lemmas.Bool.Decides.{nat_tests}
use Rattle.tm_data.proofs.VectorLemmas.{joined_ascends, joined_stamp, single_is_vector, stamp_greatest, greatest_least}
use Rattle.tm_data.specs.declared.image.Image.{Image}
use Rattle.tm_data.specs.declared.log.Group.{Group}
use Rattle.tm_data.specs.declared.log.Record.TheVariants.{Beat}
use Rattle.tm_data.specs.declared.transaction.Page.{Page}
use Rattle.tm_data.specs.declared.transaction.Stamp.{Stamp}
use Rattle.tm_data.specs.declared.transaction.Txn.{Txn}
use Rattle.tm_data.specs.declared.transaction.Writer.{Writer}
use Rattle.tm_data.specs.declared.vector.VectorEntry.{VectorEntry}
use Rattle.tm_data.specs.Vectors.{joined, single, stamp_of}
use Rattle.tm_base.specs.declared.command.Command.{Command}
use Rattle.tm_base.specs.declared.command.Command.TheVariants as command
use Rattle.tm_base.specs.declared.message.Node.{Node}
use Rattle.tm_base.specs.declared.message.Node.TheVariants.{LogStore}
use Rattle.tm_base.specs.declared.message.Note.{Note}
use Rattle.tm_base.specs.declared.message.Note.TheVariants as note
use Rattle.tm_base.specs.declared.message.RosterEntry.{RosterEntry}
use Rattle.tm_base.specs.declared.message.Tag.{Tag}
use Rattle.tm_base.specs.declared.reply.Reply.{Reply}
use Rattle.tm_base.specs.declared.reply.Reply.TheVariants as reply
use Rattle.page_model.specs.Effects.{initial}
use Rattle.page_model.specs.Pool.{image_of}
use Rattle.page_model.specs.Tiling.{blank_page}
use Rattle.log_writer.specs.Log.{last_stamp}
use Rattle.lease_desk.specs.declared.lease.Lease.{Lease}
use Rattle.lease_desk.specs.declared.lease.Lease.TheVariants as lease
use Rattle.lease_desk.specs.declared.lease.PageLease.{PageLease}
use Rattle.lease_desk.specs.Desk.{Leases, granted, is_held, is_ready, is_releasing, lease_of, recalled, set_if}
use Rattle.std.specs.FinMap.{gets}
use Rattle.std.specs.FinMap as fin
use Rattle.master_model.specs.declared.recovery.Stage.{Stage}
use Rattle.master_model.specs.declared.recovery.Stage.TheVariants.{Seal, Close, Scan, Take, Undo, Told, Over}
use Rattle.master_model.specs.State.{Work, Life, Recovery, Answer, Effect, durable, settled, writer_of}
use Rattle.master_model.specs.Fates as fates
use Rattle.master_model.specs.Fates.{hears, is_own}
use Rattle.master_model.specs.Logging.{has_numbers, has_stamps}
use Rattle.master_model.specs.Ends.{Awaited, awaited, undo_next}
use Rattle.master_model.specs.Leases as leases
use Rattle.master_model.specs.Acks as acks
use Rattle.master_model.specs.Recovery as recovery
use Rattle.master_model.specs.Recovery.{LifeEffect, LifeAnswer, WrittenRow, hears_group, hears_groups, in_turn, is_next}
use Rattle.master_model.specs.Step as does
use Rattle.master_model.specs.Facts.{Brought, BringsNote, GroupBrought}
use Rattle.master_model.proofs.Moves.{AnyCause, Cause, Acked, Granted, Fresh, GivenBack, Closed, ClosedFor, with_ack_of, without_ended, fresh_taken, group_moves, begin_moves, get_moves, put_moves, commit_moves, abort_moves, undo_moves}

-- What is heard of a group is a vector.
single_most : (writer stamp w most : ℕ) → stamp ≤ most → stamp_of (single writer stamp) w ≤ most
single_most writer stamp w most h = grind (arith, nat_tests)

pub group_brought : (g : Group) → GroupBrought g → Brought (joined g.learnt (single g.writer.0 g.stamp.0))
group_brought g b =
    let one = single_is_vector g.writer.0 g.stamp.0 b.writer in
    let whole = joined_ascends 0 g.learnt (single g.writer.0 g.stamp.0) b.learnt.0 one in (
      whole,
      greatest_least 0 (joined g.learnt (single g.writer.0 g.stamp.0)) (2 ^ 63 - 1) whole (λ w.
          omega (arith, joined_stamp g.learnt (single g.writer.0 g.stamp.0) w b.learnt.0 one, stamp_greatest g.learnt w, b.learnt.1, single_most g.writer.0 g.stamp.0 w (2 ^ 63 - 1) b.stamp)),
    )

-- The groups that are taken are some of those that came.
turn_if : (g : Group) (taken left : List Group) (b : Bool) → GroupBrought g → AllByRecursion GroupBrought taken → AllByRecursion GroupBrought left → AllByRecursion GroupBrought (cond b (g ∷ taken) left)
turn_if g taken left true one h k = (one, h)
turn_if g taken left false one h k = k

pub turn_brought : (writer next most : ℕ) (gs : List Group) → AllByRecursion GroupBrought gs → AllByRecursion GroupBrought (in_turn writer next most gs)
turn_brought writer next most [] h = tt
turn_brought writer next most (g ∷ gs) h =
    turn_if g (in_turn writer (next + 1) most gs) (in_turn writer next most gs) (is_next writer next most g) h.0 (turn_brought writer (next + 1) most gs h.1) (turn_brought writer next most gs h.1)

-- A page that was granted is held.
pub granted_held : (m : Leases) (page epoch : ℕ) (stamp : Stamp) → nat_lt (lease_of m page).epoch epoch ≡ true → is_held (lease_of (granted m page epoch stamp) page).state ≡ true
granted_held m page epoch stamp is = ap (λ (b : Bool). is_held (lease_of (set_if m page l b) page).state) is ∙ set_here m page l
  where
    l : PageLease
    l = record { epoch = epoch; state = lease.Held; stamp = stamp }

    set_here : (m : Leases) (page : ℕ) (new : PageLease) → is_held (lease_of (fin.insert m page new) page).state ≡ is_held new.state
    set_here m page new = grind (arith, nat_tests, gets)

-- Its stamp is the grant's.
granted_stamp : (m : Leases) (page epoch : ℕ) (stamp : Stamp) → nat_lt (lease_of m page).epoch epoch ≡ true → stamp.0 ≡ 0 → 0 ≡ (lease_of (granted m page epoch stamp) page).stamp.0
granted_stamp m page epoch stamp is zero_is = sym (ap (λ (b : Bool). (lease_of (set_if m page l b) page).stamp.0) is ∙ (set_here m page l ∙ zero_is))
  where
    l : PageLease
    l = record { epoch = epoch; state = lease.Held; stamp = stamp }

    set_here : (m : Leases) (page : ℕ) (new : PageLease) → (lease_of (fin.insert m page new) page).stamp.0 ≡ new.stamp.0
    set_here m page new = grind (arith, nat_tests, gets)

pub fresh_rises : (a : Bool) (epoch : ℕ) → a && nat_eq epoch 0 ≡ true → nat_lt epoch 1 ≡ true
fresh_rises true epoch is = grind (arith, nat_tests)
fresh_rises false epoch is = absurd (cc is)

-- What a message brings has a property, where it is for this writer.
abbrev pub IsFor : Work → Writer → Type 0
IsFor w writer = nat_eq writer.0 (writer_of w) ≡ true

abbrev pub AllowsAck : (Work → Cause → Type 0) → Work → Writer → ℕ → Node → Type 0
AllowsAck G w writer seq (LogStore store) = IsFor w writer → G w (Acked store seq)
AllowsAck G w writer seq other = Unit {0}

abbrev pub AllowsFresh : (Work → Cause → Type 0) → Work → Writer → Option Page → Type 0
AllowsFresh G w writer None = Unit {0}
AllowsFresh G w writer (Some page) = IsFor w writer → G w (Fresh page)

abbrev pub Allows : (Work → Cause → Type 0) → Work → Node → Note → Type 0
Allows G w from (note.Ack writer seq) = AllowsAck G w writer seq from
Allows G w from (note.Grant writer page epoch of tags vector) = IsFor w writer → G w (Granted page epoch of tags vector)
Allows G w from (note.FreshIs writer nth page) = AllowsFresh G w writer page
Allows G w from other = Unit {0}

-- At an acknowledgement and at a recall pages may be given back.
abbrev pub AllBack : (Work → Cause → Type 0) → Type 0
AllBack G = (w : Work) (page : ℕ) → G w (GivenBack page)

abbrev pub Backs : (Work → Cause → Type 0) → Note → Type 0
Backs G (note.Ack writer seq) = AllBack G
Backs G (note.Recall writer page epoch) = AllBack G
Backs G other = Unit {0}

pub backs_any : (G : Work → Cause → Type 0) → AllBack G → (n : Note) → Backs G n
backs_any G back (note.Ack writer seq) = back
backs_any G back (note.Recall writer page epoch) = back
backs_any G back other = tt

module _ {G : Work → Cause → Type 0} {R : Work → Work → Type 0} (c : ClosedFor G R) where
  -- ---- pages

  ready_moves : AllBack G → (w : Work) (page : ℕ) → R w (leases.releases_ready w page).0
  ready_moves back w page = by (is_ready (lease_of w.leases page) (settled w)) refl
    where
      by : (b : Bool) → is_ready (lease_of w.leases page) (settled w) ≡ b → R w (leases.releases_if w page b).0
      by true is = c.give_back w page is (back w page)
      by false is = c.none w

  all_move : AllBack G → (ps : List ℕ) (w : Work) → R w (leases.releases_all ps w).0
  all_move back [] w = c.none w
  all_move back (p ∷ ps) w =
      let one : Work = (leases.releases_ready w p).0 in
      c.both w one (leases.releases_all ps one).0 (ready_moves back w p) (all_move back ps one)

  grant_moves : (w : Work) (page : Page) (epoch : ℕ) (stamp : Stamp) (tags : List Tag) (vector : List VectorEntry) → Brought vector → stamp.0 ≤ 2 ^ 63 - 1
      → G w (Granted page epoch stamp tags vector) → R w (leases.on_grant w page epoch stamp tags vector).0
  grant_moves w page epoch stamp tags vector brought fits granted = by (nat_lt (lease_of w.leases page.0).epoch epoch) refl
    where
      taken : Work
      taken = leases.takes_page w page epoch stamp tags vector

      with_first : (b : Bool) → nat_eq stamp.0 0 ≡ b → nat_lt (lease_of w.leases page.0).epoch epoch ≡ true → R taken (leases.gets_image taken page b).0
      with_first true first is = c.image taken (initial page) (granted_held w.leases page.0 epoch stamp is) (granted_stamp w.leases page.0 epoch stamp is (grind (arith, nat_tests)))
      with_first false first is = c.none taken

      by : (b : Bool) → nat_lt (lease_of w.leases page.0).epoch epoch ≡ b → R w (leases.on_grant_if w page epoch stamp tags vector b).0
      by false is = c.none w
      by true is = c.both w taken _ (c.grant w page epoch stamp tags vector is brought fits granted) (with_first (nat_eq stamp.0 0) refl is)

  abbrev FreshIs : Work → Option Page → Type 0
  FreshIs w None = Unit {0}
  FreshIs w (Some page) = G w (Fresh page)

  fresh_moves : (w : Work) (nth : ℕ) (page : Option Page) → FreshIs w page → R w (leases.on_fresh w nth page).0
  fresh_moves w nth page came = by (nat_eq nth (w.fresh + 1))
    where
      given : (p : Page) (b : Bool) → nat_lt 1024 p.0 && nat_eq (lease_of w.leases p.0).epoch 0 ≡ b → G w (Fresh p) → R w (leases.with_fresh_if w p b)
      given p false is came = c.none w
      given p true is came = c.both w (fresh_taken w p) _ (c.fresh_page w p is came) (c.image (fresh_taken w p) (blank_page p) (granted_held w.leases p.0 1 (record { 0 = 0 }) (fresh_rises (nat_lt 1024 p.0) (lease_of w.leases p.0).epoch is))
          (granted_stamp w.leases p.0 1 (record { 0 = 0 }) (fresh_rises (nat_lt 1024 p.0) (lease_of w.leases p.0).epoch is) refl))

      any : (o : Option Page) → FreshIs w o → R w (leases.with_fresh w o)
      any None came = c.fresh_none w
      any (Some p) came = given p (nat_lt 1024 p.0 && nat_eq (lease_of w.leases p.0).epoch 0) refl came

      by : (b : Bool) → R w (leases.on_fresh_if w page b).0
      by true = any page came
      by false = c.none w

  page_moves : (w : Work) (image : Image) → R w (leases.on_page w image).0
  page_moves w image = by (image_of image.page.0 w.pool.images)
    where
      new : (b d : Bool) → is_held (lease_of w.leases image.page.0).state ≡ b → nat_eq image.stamp.0 (lease_of w.leases image.page.0).stamp.0 ≡ d → R w (leases.on_page_if w image (b && d)).0
      new true true is same = c.image w image is (grind (arith, nat_tests))
      new true false is same = c.none w
      new false d is same = c.none w

      by : (o : Option Image) → R w (leases.on_page_if w image (leases.is_wanted w image o)).0
      by (Some old) = c.none w
      by None = new (is_held (lease_of w.leases image.page.0).state) (nat_eq image.stamp.0 (lease_of w.leases image.page.0).stamp.0) refl refl

  recall_moves : AllBack G → (w : Work) (page epoch : ℕ) → R w (leases.on_recall w page epoch).0
  recall_moves back w page epoch = by (nat_eq (lease_of w.leases page).epoch epoch)
    where
      in_state : (l : Lease) → R w (leases.on_recall_in w page epoch l).0
      in_state lease.Held =
          let told : Work = record w { leases = recalled w.leases page epoch } in
          c.both w told _ (c.recall w page epoch (back w page)) (ready_moves back told page)
      in_state lease.Releasing = c.none w
      in_state other = c.none w

      by : (b : Bool) → R w (leases.on_recall_if w page epoch b).0
      by true = in_state (lease_of w.leases page).state
      by false = c.none w

  released_moves : (w : Work) (page epoch : ℕ) → R w (leases.on_released w page epoch).0
  released_moves w page epoch = by (is_releasing (lease_of w.leases page).state && nat_eq (lease_of w.leases page).epoch epoch) refl
    where
      by : (b : Bool) → is_releasing (lease_of w.leases page).state && nat_eq (lease_of w.leases page).epoch epoch ≡ b → R w (leases.on_released_if w page epoch b).0
      by true is = c.release w page epoch is
      by false is = c.none w

  -- ---- the log

  abbrev AckIs : Work → ℕ → Node → Type 0
  AckIs w seq (LogStore store) = G w (Acked store seq)
  AckIs w seq other = Unit {0}

  ack_moves : AllBack G → (w : Work) (from : Node) (seq : ℕ) → AckIs w seq from → R w (acks.on_ack w from seq).0
  ack_moves back w (LogStore store) seq came = by (nat_lt (durable w) (durable (with_ack_of w store seq))) refl
    where
      by : (b : Bool) → nat_lt (durable w) (durable (with_ack_of w store seq)) ≡ b → R w (acks.on_more (with_ack_of w store seq) (durable w) b).0
      by false is = c.acks w store seq is came
      by true is =
          let told : Work = without_ended (with_ack_of w store seq) (durable w) in
          let gone : Work = (leases.releases_all (leases.recalled_pages (with_ack_of w store seq)) told).0 in
          c.both w told _ (c.acks_more w store seq is came) (c.both told gone _ (all_move back (leases.recalled_pages (with_ack_of w store seq)) told) (c.let_go gone (back gone)))
  ack_moves back w other seq came = c.none w

  want_moves : (w : Work) (wanted : ℕ) → R w (acks.on_want w wanted).0
  want_moves w wanted = by (nat_lt (last_stamp w.log) wanted) (has_numbers w 1) (has_stamps w 1) refl refl
    where
      by : (a b d : Bool) → has_numbers w 1 ≡ b → has_stamps w 1 ≡ d → R w (acks.beats w (a && b && d)).0
      by false b d is_b is_d = c.none w
      by true false d is_b is_d = c.none w
      by true true false is_b is_d = c.none w
      by true true true is_b is_d = group_moves c w (Beat ∷ []) refl (record { numbers = grind (arith, nat_tests); stamps = grind (arith, nat_tests) })

  -- ---- fates

  fate_moves : (w : Work) (t : Txn) (ended : Bool) (vector : List VectorEntry) → Brought vector → R w (fates.on_fate w t ended vector).0
  fate_moves w t ended vector brought = c.both w (hears w vector) _ (c.hears_vector w vector brought) (by (is_own w t) refl ended)
    where
      told : Work
      told = hears w vector

      marked : (b : Bool) → is_own w t ≡ false → sets.contains w.ended t ≡ b → R told (fates.with_mark told t b)
      marked true is known = c.none told
      marked false is known = c.mark told t is known

      by : (b : Bool) → is_own w t ≡ b → (e : Bool) → R told (fates.with_fate_of_other told t e b)
      by true is e = c.none told
      by false is true = c.end told t is
      by false is false = marked (sets.contains w.ended t) is refl

  ask_moves : (w : Work) (t : Txn) (master : ℕ) → R w (fates.on_ask w t master).0
  ask_moves w t master = by (is_own w t)
    where
      by : (b : Bool) → R w (fates.on_ask_own w t master b).0
      by true = c.none w
      by false = c.none w

  -- ---- recovery

  pub groups_heard : (w : Work) (gs : List Group) → AllByRecursion GroupBrought gs → R w (hears_groups w gs)
  groups_heard w [] h = c.none w
  groups_heard w (g ∷ gs) h =
      c.both w (hears_group w g) (hears_groups (hears_group w g) gs) (c.hears_vector w (joined g.learnt (single g.writer.0 g.stamp.0)) (group_brought g h.0)) (groups_heard (hears_group w g) gs h.1)

  scanned_moves : (l : Life) (r : Recovery) (writer : ℕ) (groups : List Group) (s : Stage) → AllByRecursion GroupBrought groups → R l.work (recovery.on_groups_in l r groups s).0.work
  scanned_moves l r writer groups (Scan store most next) h = some (in_turn r.writer next most groups) (turn_brought r.writer next most groups h)
    where
      some : (gs : List Group) → AllByRecursion GroupBrought gs → R l.work (recovery.reads_groups l r store most next gs).0.work
      some [] k = c.none l.work
      some (g ∷ gs) k = by (nat_le (next + length (g ∷ gs)) most) (groups_heard l.work (g ∷ gs) k)
        where
          by : (b : Bool) → R l.work (hears_groups l.work (g ∷ gs))
              → R l.work (recovery.scans_on (record l { work = hears_groups l.work (g ∷ gs) }) (record r { scanned = r.scanned ++ g ∷ gs }) store most (next + length (g ∷ gs)) b).0.work
          by true m = m
          by false m = m
  scanned_moves l r writer groups other h = c.none l.work

  recovering_moves : (l : Life) (writer : ℕ) (goes_on : Recovery → LifeEffect) → ((r : Recovery) → R l.work (goes_on r).0.work) → R l.work (recovery.recovering l writer goes_on).0.work
  recovering_moves l writer goes_on h = by l.recovery
    where
      of : (r : Recovery) (b : Bool) → R l.work (recovery.of_recovery l r b goes_on).0.work
      of r true = h r
      of r false = c.none l.work

      by : (o : Option Recovery) → R l.work (recovery.of_any l writer o goes_on).0.work
      by None = c.none l.work
      by (Some r) = of r (nat_eq r.writer writer)

  sealed_moves : (l : Life) (writer most : ℕ) (from : Node) → R l.work (recovery.on_sealed_from l writer most from).0.work
  sealed_moves l writer most (LogStore store) = recovering_moves l writer _ (λ r. by r r.stage)
    where
      by : (r : Recovery) (s : Stage) → R l.work (recovery.on_sealed_in l r store most s).0.work
      by r Seal = c.none l.work
      by r other = c.none l.work
  sealed_moves l writer most other = c.none l.work

  closed_moves : (l : Life) (writer store most : ℕ) → R l.work (recovery.on_closed l writer store most).0.work
  closed_moves l writer store most = recovering_moves l writer _ (λ r. by r r.stage)
    where
      scans : (r : Recovery) (b : Bool) → R l.work (recovery.scans l r store most b).0.work
      scans r true = c.none l.work
      scans r false = c.none l.work

      by : (r : Recovery) (s : Stage) → R l.work (recovery.on_closed_in l r store most s).0.work
      by r (Close asked_store asked) = scans r (nat_eq most 0)
      by r other = c.none l.work

  taken_moves : (l : Life) (writer part : ℕ) → R l.work (recovery.on_taken l writer part).0.work
  taken_moves l writer part = recovering_moves l writer _ (λ r. by r r.stage)
    where
      on : (r : Recovery) (p : ℕ) (rest b : Bool) → R l.work (recovery.on_taken_if l r p rest b).0.work
      on r p true true = c.none l.work
      on r p false true = c.none l.work
      on r p rest false = c.none l.work

      by : (r : Recovery) (s : Stage) → R l.work (recovery.on_taken_in l r part s).0.work
      by r (Take p rest) = on r p rest (nat_eq part p)
      by r other = c.none l.work

  -- ---- a message

  own_moves : (l : Life) (writer : Writer) (e : Effect) → (IsFor l.work writer → R l.work e.0) → R l.work (does.own l writer e).0.work
  own_moves l writer e h = by (nat_eq writer.0 (writer_of l.work)) refl
    where
      by : (b : Bool) → nat_eq writer.0 (writer_of l.work) ≡ b → R l.work (does.if_own l b e).0.work
      by true is = h is
      by false is = c.none l.work

  ack_for : (w : Work) (writer : Writer) (seq : ℕ) (from : Node) → AllowsAck G w writer seq from → IsFor w writer → AckIs w seq from
  ack_for w writer seq (LogStore store) k is = k is
  ack_for w writer seq other k is = tt

  fresh_for : (w : Work) (writer : Writer) (page : Option Page) → AllowsFresh G w writer page → IsFor w writer → FreshIs w page
  fresh_for w writer None k is = tt
  fresh_for w writer (Some page) k is = k is

  fenced_work : (l : Life) (o : Option RosterEntry) → (does.fenced_by l o).work ≡ l.work
  fenced_work l None = refl
  fenced_work l (Some e) = refl

  pub note_moves_for : (l : Life) (from : Node) (stamp : ℕ) (n : Note) → BringsNote n → Allows G l.work from n → Backs G n → R l.work (does.on_note l from stamp n).0.work
  note_moves_for l from stamp (note.Ack writer seq) h k b = own_moves l writer _ (λ is. ack_moves b l.work from seq (ack_for l.work writer seq from k is))
  note_moves_for l from stamp (note.Sealed writer most) h k b = by (nat_eq writer.0 (writer_of l.work))
    where
      by : (is : Bool) → R l.work (does.on_sealed_own l is).0.work
      by true = c.none l.work
      by false = c.none l.work
  note_moves_for l from stamp (note.Grant writer page epoch of tags vector) h k b = own_moves l writer _ (λ is. grant_moves l.work page epoch of tags vector h.0 h.1 (k is))
  note_moves_for l from stamp (note.FreshIs writer nth page) h k b = own_moves l writer _ (λ is. fresh_moves l.work nth page (fresh_for l.work writer page k is))
  note_moves_for l from stamp (note.Recall writer page epoch) h k b = own_moves l writer _ (λ is. recall_moves b l.work page.0 epoch)
  note_moves_for l from stamp (note.Released writer page epoch) h k b = own_moves l writer _ (λ is. released_moves l.work page.0 epoch)
  note_moves_for l from stamp (note.PageIs image) h k b = page_moves l.work image
  note_moves_for l from stamp (note.Ask txn master) h k b = ask_moves l.work txn master
  note_moves_for l from stamp (note.Fate txn ended vector) h k b = fate_moves l.work txn ended vector h
  note_moves_for l from stamp (note.Roster entries) h k b =
      let kept : Life = record l { roster = entries; recovery = does.over_by l.recovery (recovery.entry_of entries (does.writer_under l.recovery)) } in
      subst (R l.work) (sym (fenced_work kept (recovery.entry_of entries (writer_of l.work)))) (c.none l.work)
  note_moves_for l from stamp (note.Want None) h k b = c.none l.work
  note_moves_for l from stamp (note.Want (Some writer)) h k b = own_moves l writer _ (λ is. want_moves l.work stamp)
  note_moves_for l from stamp (note.SealedAt writer most) h k b = sealed_moves l writer.0 most from
  note_moves_for l from stamp (note.Closed writer most store) h k b = closed_moves l writer.0 store most
  note_moves_for l from stamp (note.Groups writer groups) h k b = recovering_moves l writer.0 _ (λ r. scanned_moves l r writer.0 groups r.stage h)
  note_moves_for l from stamp (note.Taken writer part) h k b = taken_moves l writer.0 part
  note_moves_for l from stamp (note.Recovered writer vector) h k b = c.none l.work
  note_moves_for l from stamp other h k b = c.none l.work

  -- ---- the command of a recovery

  finishes_moves : (l : Life) (r : Recovery) (groups : List Group) (o : Awaited) → R l.work (recovery.finishes l r groups o).life.work
  finishes_moves l r groups None = c.none l.work
  finishes_moves l r groups (Some (store, seq)) = c.none l.work

  undone_moves : (l : Life) (r : Recovery) (left : ℕ) (w : Work) (a : Answer) (said : Reply) → R w a.work → R w (recovery.undoes_one l r left a said).life.work
  undone_moves l r left w a reply.Done h = by (nat_eq left 0) (awaited a.work new.undo_seq)
    where
      new : Life
      new = recovery.at_stage (record l { work = a.work; undo_seq = recovery.undo_seq_after l.undo_seq a.work a.groups }) r (Undo left)

      by : (b : Bool) (o : Awaited)
          → R w (cond b (recovery.finishes new r a.groups o) (record { life = new; reply = reply.AgainRows left; groups = a.groups; messages = [] })).life.work
      by true None = h
      by true (Some (store, seq)) = h
      by false o = h
  undone_moves l r left w a other h = h

  undoes_moves : (l : Life) (r : Recovery) (left : ℕ) (us : List WrittenRow) → R l.work (recovery.undoes_next l r left us).life.work
  undoes_moves l r left [] = finishes_moves l r [] (awaited l.work l.undo_seq)
  undoes_moves l r left (u ∷ us) =
      let a : Answer = undo_next l.work u.row.table u.row.key u.txn in
      undone_moves l r (left - 1) l.work a a.reply (undo_moves c l.work u.row.table u.row.key u.txn)

  pub recover_moves : (l : Life) (writer : Writer) → R l.work (recovery.recover l writer).life.work
  recover_moves l writer = by (nat_eq writer.0 (writer_of l.work)) (recovery.entry_of l.roster writer.0)
    where
      in_stage : (r : Recovery) (s : Stage) → R l.work (recovery.recovers_in l r s).life.work
      in_stage r Seal = c.none l.work
      in_stage r (Close store most) = c.none l.work
      in_stage r (Scan store most next) = c.none l.work
      in_stage r (Take part rest) = c.none l.work
      in_stage r (Undo left) = undoes_moves l r left (recovery.rows_left r left)
      in_stage r Told = c.none l.work
      in_stage r Over = c.none l.work

      other : (r : Recovery) (b : Bool) → R l.work (recovery.recovers_other l r b).life.work
      other r true = in_stage r r.stage
      other r false = c.none l.work

      under : (o : Option Recovery) → R l.work (recovery.recovers l writer.0 o).life.work
      under None = c.none l.work
      under (Some r) = other r (nat_eq r.writer writer.0)

      known : (b : Bool) → R l.work (recovery.recovers_known l writer b).life.work
      known true = c.none l.work
      known false = under l.recovery

      by : (b : Bool) (o : Option RosterEntry) → R l.work (recovery.recovers_listed l writer b o).life.work
      by true o = c.none l.work
      by false None = c.none l.work
      by false (Some e) = known (sets.contains l.recovered writer || recovery.is_recovered e.state)

  pub command_moves : (l : Life) (session : ℕ) (asked : Command) → R l.work (does.commanded l session asked).life.work
  command_moves l session command.Begin = begin_moves c l.work session
  command_moves l session (command.Get table key) = get_moves c l.work session table key
  command_moves l session (command.Put table key value) = put_moves c l.work session table key (Some value)
  command_moves l session (command.Del table key) = put_moves c l.work session table key None
  command_moves l session command.Commit = commit_moves c l.work session
  command_moves l session command.Abort = abort_moves c l.work session
  command_moves l session (command.Recover writer) = recover_moves l writer

any_ack : (w : Work) (writer : Writer) (seq : ℕ) (from : Node) → AllowsAck AnyCause w writer seq from
any_ack w writer seq (LogStore store) = λ is. tt
any_ack w writer seq other = tt

any_fresh : (w : Work) (writer : Writer) (page : Option Page) → AllowsFresh AnyCause w writer page
any_fresh w writer None = tt
any_fresh w writer (Some page) = λ is. tt

pub any_allowed : (w : Work) (from : Node) (n : Note) → Allows AnyCause w from n
any_allowed w from (note.Ack writer seq) = any_ack w writer seq from
any_allowed w from (note.Grant writer page epoch of tags vector) = λ is. tt
any_allowed w from (note.FreshIs writer nth page) = any_fresh w writer page
any_allowed w from other = tt

pub note_moves : {R : Work → Work → Type 0} (c : Closed R) (l : Life) (from : Node) (stamp : ℕ) (n : Note) → BringsNote n → R l.work (does.on_note l from stamp n).0.work
note_moves c l from stamp n h = note_moves_for c l from stamp n h (any_allowed l.work from n) (backs_any AnyCause (λ w page. tt) n)
