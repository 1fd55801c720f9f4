-- What is sent after each kind of message says what is so.
use Rattle.std.proofs.Common.{◌≡◌, ◌+◌, ℕ, Bool, true, false, List, [], ◌∷◌, ◌++◌, Option, Some, None, refl, arith}
use Rattle.std.specs.Prelude.{nat_eq, nat_lt, nat_le, ◌&&◌, length}
use Rattle.std.specs.FinMap as fin
use Rattle.std.proofs.lemmas.Bool.Decides.{nat_tests}
use Rattle.tm_data.specs.declared.image.Image.{Image}
use Rattle.tm_data.specs.declared.log.Group.{Group}
use Rattle.tm_data.specs.declared.log.Record.TheVariants.{Beat}
use Rattle.tm_data.specs.declared.transaction.Page.{Page}
use Rattle.tm_data.specs.declared.transaction.Stamp.{Stamp}
use Rattle.tm_data.specs.declared.transaction.Txn.{Txn}
use Rattle.tm_data.specs.declared.vector.VectorEntry.{VectorEntry}
use Rattle.tm_base.specs.declared.message.Message.{Message}
use Rattle.tm_base.specs.declared.message.Node.{Node}
use Rattle.tm_base.specs.declared.message.Node.TheVariants.{LogStore}
use Rattle.tm_base.specs.declared.message.Note.{Note}
use Rattle.tm_base.specs.declared.message.Note.TheVariants as note
use Rattle.tm_base.specs.declared.message.Tag.{Tag}
use Rattle.log_writer.specs.Log.{last_stamp}
use Rattle.lease_desk.specs.declared.lease.Lease.{Lease}
use Rattle.lease_desk.specs.declared.lease.Lease.TheVariants as lease
use Rattle.lease_desk.specs.Desk.{is_held, is_releasing, lease_of, recalled}
use Rattle.master_model.specs.declared.recovery.Stage.{Stage}
use Rattle.master_model.specs.declared.recovery.Stage.TheVariants.{Seal, Close, Scan, Take}
use Rattle.master_model.specs.State.{Work, Life, State, Recovery, Effect, durable, writer_of}
use Rattle.master_model.specs.Fates as fates
use Rattle.master_model.specs.Fates.{is_own}
use Rattle.master_model.specs.Logging.{has_numbers, has_stamps, logs, next_group}
use Rattle.master_model.specs.Leases as leases
use Rattle.master_model.specs.Acks as acks
use Rattle.master_model.specs.Recovery as recovery
use Rattle.master_model.specs.Recovery.{LifeEffect}
use Rattle.master_model.specs.Step as does
use Rattle.master_model.specs.Step.{start, step, tick}
use Rattle.master_model.specs.Told.{MessagesAre, Sent, SentBy}
use Rattle.master_model.proofs.Moves.{with_ack_of}
use Rattle.master_model.proofs.StepMoves.{granted_held}
use Rattle.master_model.proofs.ToldLemmas.{appends_told, logged_in, none_told}
use Rattle.master_model.proofs.StepTold.{again_told, more_told, ready_told, ticked_told}

-- What an effect sends.
abbrev Says : Effect → Type 0
Says e = MessagesAre e.0 e.1

-- ---- a writer's

held_is : (s : Lease) → is_held s ≡ true → s ≡ lease.Held
held_is lease.Held h = refl
held_is lease.None h = absurd (cc h)
held_is lease.Recalled h = absurd (cc h)
held_is lease.Releasing h = absurd (cc h)

grant_told : (w : Work) (page : Page) (epoch : ℕ) (stamp : Stamp) (tags : List Tag) (vector : List VectorEntry) → Says (leases.on_grant w page epoch stamp tags vector)
grant_told w page epoch stamp tags vector = by (nat_lt (lease_of w.leases page.0).epoch epoch) refl
  where
    taken : Work
    taken = leases.takes_page w page epoch stamp tags vector

    image : (b : Bool) → nat_lt (lease_of w.leases page.0).epoch epoch ≡ true → Says (leases.gets_image taken page b)
    image true is = tt
    image false is = (record { sender = refl; stamp = refl; says = (refl, held_is (lease_of taken.leases page.0).state (granted_held w.leases page.0 epoch stamp is)) }, tt)

    by : (b : Bool) → nat_lt (lease_of w.leases page.0).epoch epoch ≡ b → Says (leases.on_grant_if w page epoch stamp tags vector b)
    by false is = tt
    by true is = image (nat_eq stamp.0 0) is

fresh_told : (w : Work) (nth : ℕ) (page : Option Page) → Says (leases.on_fresh w nth page)
fresh_told w nth page = by (nat_eq nth (w.fresh + 1))
  where
    by : (b : Bool) → Says (leases.on_fresh_if w page b)
    by true = tt
    by false = tt

page_told : (w : Work) (image : Image) (b : Bool) → Says (leases.on_page_if w image b)
page_told w image true = tt
page_told w image false = tt

recall_told : (w : Work) (page epoch : ℕ) → Says (leases.on_recall w page epoch)
recall_told w page epoch = by (nat_eq (lease_of w.leases page).epoch epoch)
  where
    in_state : (s : Lease) → Says (leases.on_recall_in w page epoch s)
    in_state lease.Held = ready_told (record w { leases = recalled w.leases page epoch }) page
    in_state lease.Releasing = again_told w page (fin.get w.left page) refl
    in_state other = tt

    by : (b : Bool) → Says (leases.on_recall_if w page epoch b)
    by true = in_state (lease_of w.leases page).state
    by false = tt

released_told : (w : Work) (page epoch : ℕ) (b : Bool) → Says (leases.on_released_if w page epoch b)
released_told w page epoch true = tt
released_told w page epoch false = tt

ack_told : (w : Work) (from : Node) (seq : ℕ) → Says (acks.on_ack w from seq)
ack_told w (LogStore store) seq = more_told (with_ack_of w store seq) (durable w) (nat_lt (durable w) (durable (with_ack_of w store seq)))
ack_told w other seq = tt

want_told : (w : Work) (wanted : ℕ) → Says (acks.on_want w wanted)
want_told w wanted = by (nat_lt (last_stamp w.log) wanted) (has_numbers w 1) (has_stamps w 1) refl refl
  where
    by : (a b d : Bool) → has_numbers w 1 ≡ b → has_stamps w 1 ≡ d → Says (acks.beats w (a && b && d))
    by false b d is_b is_d = tt
    by true false d is_b is_d = tt
    by true true false is_b is_d = tt
    by true true true is_b is_d =
        appends_told (logs w ((Beat ∷ []) ∷ [])).work (next_group w (Beat ∷ []) ∷ []) (logged_in w ((Beat ∷ []) ∷ []) (record { numbers = grind (arith, nat_tests); stamps = grind (arith, nat_tests) }))

ask_told : (w : Work) (t : Txn) (master : ℕ) (b : Bool) → is_own w t ≡ b → Says (fates.on_ask_own w t master b)
ask_told w t master true is = (record { sender = refl; stamp = refl; says = (master, refl, is, refl, refl) }, tt)
ask_told w t master false is = tt

-- ---- a recovery's

abbrev LifeSays : LifeEffect → Type 0
LifeSays e = MessagesAre e.0.work e.1

own_told : (l : Life) (b : Bool) (e : Effect) → Says e → LifeSays (does.if_own l b e)
own_told l true e h = h
own_told l false e h = tt

under_told : (l : Life) (writer : ℕ) (goes_on : Recovery → LifeEffect) → ((r : Recovery) → LifeSays (goes_on r)) → LifeSays (recovery.recovering l writer goes_on)
under_told l writer goes_on h = by l.recovery
  where
    of : (r : Recovery) (b : Bool) → LifeSays (recovery.of_recovery l r b goes_on)
    of r true = h r
    of r false = tt

    by : (o : Option Recovery) → LifeSays (recovery.of_any l writer o goes_on)
    by None = tt
    by (Some r) = of r (nat_eq r.writer writer)

sealed_told : (l : Life) (writer most : ℕ) (from : Node) → LifeSays (recovery.on_sealed_from l writer most from)
sealed_told l writer most (LogStore store) = under_told l writer _ (λ r. by r r.stage)
  where
    by : (r : Recovery) (s : Stage) → LifeSays (recovery.on_sealed_in l r store most s)
    by r Seal = (record { sender = refl; stamp = refl; says = refl }, tt)
    by r other = tt
sealed_told l writer most other = tt

take_told : (l : Life) (r : Recovery) → LifeSays (recovery.to_take l r)
take_told l r = (record { sender = refl; stamp = refl; says = (refl, refl) }, tt)

closed_told : (l : Life) (writer store most : ℕ) → LifeSays (recovery.on_closed l writer store most)
closed_told l writer store most = under_told l writer _ (λ r. by r r.stage)
  where
    scans : (r : Recovery) (b : Bool) → LifeSays (recovery.scans l r store most b)
    scans r true = take_told l r
    scans r false = (record { sender = refl; stamp = refl; says = (store, refl) }, tt)

    by : (r : Recovery) (s : Stage) → LifeSays (recovery.on_closed_in l r store most s)
    by r (Close asked_store asked) = scans r (nat_eq most 0)
    by r other = tt

groups_told : (l : Life) (writer : ℕ) (groups : List Group) → LifeSays (recovery.on_groups l writer groups)
groups_told l writer groups = under_told l writer _ (λ r. by r r.stage)
  where
    scans : (r : Recovery) (store most next : ℕ) (gs : List Group) → LifeSays (recovery.reads_groups l r store most next gs)
    scans r store most next [] = tt
    scans r store most next (g ∷ gs) = on (nat_le (next + length (g ∷ gs)) most)
      where
        on : (b : Bool) → LifeSays (recovery.scans_on (record l { work = recovery.hears_groups l.work (g ∷ gs) }) (record r { scanned = r.scanned ++ g ∷ gs }) store most (next + length (g ∷ gs)) b)
        on true = (record { sender = refl; stamp = refl; says = (store, refl) }, tt)
        on false = take_told (record l { work = recovery.hears_groups l.work (g ∷ gs) }) (record r { scanned = r.scanned ++ g ∷ gs })

    by : (r : Recovery) (s : Stage) → LifeSays (recovery.on_groups_in l r groups s)
    by r (Scan store most next) = scans r store most next (recovery.in_turn r.writer next most groups)
    by r other = tt

taken_told : (l : Life) (writer part : ℕ) → LifeSays (recovery.on_taken l writer part)
taken_told l writer part = under_told l writer _ (λ r. by r r.stage)
  where
    on : (r : Recovery) (p : ℕ) (rest b : Bool) → LifeSays (recovery.on_taken_if l r p rest b)
    on r p true true = tt
    on r p false true = (record { sender = refl; stamp = refl; says = (refl, refl) }, tt)
    on r p rest false = tt

    by : (r : Recovery) (s : Stage) → LifeSays (recovery.on_taken_in l r part s)
    by r (Take p rest) = on r p rest (nat_eq part p)
    by r other = tt

note_told : (l : Life) (from : Node) (stamp : ℕ) (n : Note) → LifeSays (does.on_note l from stamp n)
note_told l from stamp (note.Ack writer seq) = own_told l (nat_eq writer.0 (writer_of l.work)) _ (ack_told l.work from seq)
note_told l from stamp (note.Sealed writer most) = by (nat_eq writer.0 (writer_of l.work))
  where
    by : (b : Bool) → LifeSays (does.on_sealed_own l b)
    by true = tt
    by false = tt
note_told l from stamp (note.Grant writer page epoch of tags vector) = own_told l (nat_eq writer.0 (writer_of l.work)) _ (grant_told l.work page epoch of tags vector)
note_told l from stamp (note.FreshIs writer nth page) = own_told l (nat_eq writer.0 (writer_of l.work)) _ (fresh_told l.work nth page)
note_told l from stamp (note.Recall writer page epoch) = own_told l (nat_eq writer.0 (writer_of l.work)) _ (recall_told l.work page.0 epoch)
note_told l from stamp (note.Released writer page epoch) =
    own_told l (nat_eq writer.0 (writer_of l.work)) _ (released_told l.work page.0 epoch (is_releasing (lease_of l.work.leases page.0).state && nat_eq (lease_of l.work.leases page.0).epoch epoch))
note_told l from stamp (note.PageIs image) = page_told l.work image _
note_told l from stamp (note.Ask txn master) = ask_told l.work txn master (is_own l.work txn) refl
note_told l from stamp (note.Fate txn ended vector) = tt
note_told l from stamp (note.Roster entries) = tt
note_told l from stamp (note.Want None) = tt
note_told l from stamp (note.Want (Some writer)) = own_told l (nat_eq writer.0 (writer_of l.work)) _ (want_told l.work stamp)
note_told l from stamp (note.SealedAt writer most) = sealed_told l writer.0 most from
note_told l from stamp (note.Closed writer most store) = closed_told l writer.0 store most
note_told l from stamp (note.Groups writer groups) = groups_told l writer.0 groups
note_told l from stamp (note.Taken writer part) = taken_told l writer.0 part
note_told l from stamp (note.Recovered writer vector) = tt
note_told l from stamp other = tt

-- ---- the state's

pub sent_by_message : (s : State) (m : Message) → Sent (step s m).0 (step s m).1
sent_by_message s m = by s.life
  where
    in_life : (l : Life) (b : Bool) → Sent (does.step_in s l m b).0 (does.step_in s l m b).1
    in_life l true = none_told s s.life
    in_life l false = note_told (does.heard l m.stamp.0) m.from m.stamp.0 m.note

    by : (o : Option Life) → Sent (does.step_by s m o).0 (does.step_by s m o).1
    by None = none_told (does.joins s m.stamp.0 m.note) (does.joins s m.stamp.0 m.note).life
    by (Some l) = in_life l l.fenced

pub sent_by_tick : (s : State) → Sent s (tick s)
sent_by_tick s = by s.life
  where
    in_life : (l : Life) (b : Bool) → MessagesAre l.work (does.tick_in l b)
    in_life l true = tt
    in_life l false = ticked_told l.work

    by : (o : Option Life) → SentBy s o (does.tick_by s o)
    by None = (record { sender = refl; to = refl; stamp = refl; says = refl }, tt)
    by (Some l) = in_life l l.fenced

pub sent_at_start : (number boot stores : ℕ) → Sent (start number boot stores).0 (start number boot stores).1
sent_at_start number boot stores = (record { sender = refl; to = refl; stamp = refl; says = refl }, tt)
