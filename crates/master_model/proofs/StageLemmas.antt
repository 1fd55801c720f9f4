-- How a recovery moves, which roster is kept, and what is sent at each stage.
use Rattle.std.proofs.Common.{◌≡◌, ◌<◌, ◌+◌, ◌-◌, ◌⊎◌, inl, inr, ℕ, Bool, true, false, List, [], ◌∷◌, ◌++◌, Option, Some, None, refl, ap, sym, subst, ◌∙◌, cond, arith}
use Rattle.std.specs.Prelude.{nat_eq, nat_lt, nat_le, ◌&&◌, ◌||◌, length, map}
use Rattle.std.specs.List.{AllByRecursion}
use Rattle.std.specs.FinMap as fin
use Rattle.std.specs.FinSet as sets
use Rattle.std.proofs.lemmas.Bool.Decides.{nat_tests}
use Rattle.tm_data.specs.declared.image.Image.{Image}
use Rattle.tm_data.specs.declared.log.Group.{Group}
use Rattle.tm_data.specs.declared.transaction.Page.{Page}
use Rattle.tm_data.specs.declared.transaction.Stamp.{Stamp}
use Rattle.tm_data.specs.declared.transaction.Txn.{Txn}
use Rattle.tm_data.specs.declared.transaction.Writer.{Writer}
use Rattle.tm_data.specs.declared.vector.VectorEntry.{VectorEntry}
use Rattle.tm_base.specs.declared.command.Command.{Command}
use Rattle.tm_base.specs.declared.command.Command.TheVariants as command
use Rattle.tm_base.specs.declared.message.Message.{Message}
use Rattle.tm_base.specs.declared.message.Node.{Node}
use Rattle.tm_base.specs.declared.message.Node.TheVariants.{LogStore}
use Rattle.tm_base.specs.declared.message.Note.{Note}
use Rattle.tm_base.specs.declared.message.Note.TheVariants as note
use Rattle.tm_base.specs.declared.message.RosterEntry.{RosterEntry}
use Rattle.tm_base.specs.declared.message.Tag.{Tag}
use Rattle.tm_base.specs.declared.reply.Reply.{Reply}
use Rattle.tm_base.specs.declared.reply.Reply.TheVariants as reply
use Rattle.log_writer.specs.Log.{resent}
use Rattle.lease_desk.specs.declared.lease.Lease.{Lease}
use Rattle.lease_desk.specs.declared.lease.Lease.TheVariants as lease
use Rattle.lease_desk.specs.Desk.{is_ready, is_releasing, lease_of, recalled}
use Rattle.master_model.specs.declared.left.Left.{Left}
use Rattle.master_model.specs.declared.recovery.Stage.{Stage}
use Rattle.master_model.specs.declared.recovery.Stage.TheVariants.{Seal, Close, Scan, Take, Undo, Told, Over}
use Rattle.master_model.specs.State.{Work, Life, State, Recovery, Answer, Effect, durable, settled, writer_of}
use Rattle.master_model.specs.Fates as fates
use Rattle.master_model.specs.Fates.{is_own}
use Rattle.master_model.specs.Ends.{Awaited, awaited, undo_next}
use Rattle.master_model.specs.Leases as leases
use Rattle.master_model.specs.Acks as acks
use Rattle.master_model.specs.Recovery as recovery
use Rattle.master_model.specs.Recovery.{LifeEffect, LifeAnswer, WrittenRow, entry_of, in_turn, is_recovered, pages_of, is_last, to_undo, writer_named}
use Rattle.master_model.specs.Paths.{asks_for}
use Rattle.master_model.specs.Step as does
use Rattle.master_model.specs.Step.{start, step, on_command, tick}
use Rattle.master_model.specs.Causes.{roster_in}
use Rattle.master_model.specs.Stages.{IsAt, RecoveryAsked, RecoveryBy, RecoveryGoes, RecoveryIsAsked, StageAsked, StageBy, StageSaid, StagesAreSaid, StagesSaid}
use Rattle.master_model.proofs.Answers.{Answered, begin_says, get_says, put_says, commit_says, abort_says, undo_says}
use Rattle.master_model.proofs.AwaitedLemmas.{none_awaited}
use Rattle.master_model.proofs.CauseLemmas.{joins_or_not}
use Rattle.master_model.proofs.Moves.{with_ack_of}

-- ---- what a writer sends is no message of a recovery

abbrev IsOther : Note → Type 0
IsOther (note.Seal writer) = ⊥
IsOther (note.Close writer most store) = ⊥
IsOther (note.Fetch writer next) = ⊥
IsOther (note.Takeover writer part rest listed vector) = ⊥
IsOther (note.Undone writer recoverer vector) = ⊥
IsOther other = Unit {0}

abbrev AreOthers : List Message → Type 0
AreOthers ms = AllByRecursion (λ (m : Message). IsOther m.note) ms

other_said : (l : Life) (m : Message) (n : Note) → IsOther n → StageSaid l m.to n
other_said l m (note.Seal writer) h = absurd h
other_said l m (note.Close writer most store) h = absurd h
other_said l m (note.Fetch writer next) h = absurd h
other_said l m (note.Takeover writer part rest listed vector) h = absurd h
other_said l m (note.Undone writer recoverer vector) h = absurd h
other_said l m other h = tt

others_said : (l : Life) (ms : List Message) → AreOthers ms → StagesSaid l ms
others_said l [] h = tt
others_said l (m ∷ ms) h = (other_said l m m.note h.0, others_said l ms h.1)

both_others : (xs ys : List Message) → AreOthers xs → AreOthers ys → AreOthers (xs ++ ys)
both_others [] ys h k = k
both_others (x ∷ xs) ys h k = (h.0, both_others xs ys h.1 k)

appends_others : (w : Work) (gs : List Group) → AreOthers (acks.appends w gs)
appends_others w [] = tt
appends_others w (g ∷ gs) = (tt, (tt, (tt, appends_others w gs)))

ready_others : (w : Work) (page : ℕ) → AreOthers (leases.releases_ready w page).1
ready_others w page = by (is_ready (lease_of w.leases page) (settled w))
  where
    by : (b : Bool) → AreOthers (leases.releases_if w page b).1
    by true = (tt, tt)
    by false = tt

all_others : (ps : List ℕ) (w : Work) → AreOthers (leases.releases_all ps w).1
all_others [] w = tt
all_others (p ∷ ps) w = both_others (leases.releases_ready w p).1 (leases.releases_all ps (leases.releases_ready w p).0).1 (ready_others w p) (all_others ps (leases.releases_ready w p).0)

ack_others : (w : Work) (from : Node) (seq : ℕ) → AreOthers (acks.on_ack w from seq).1
ack_others w (LogStore store) seq = by (nat_lt (durable w) (durable (with_ack_of w store seq)))
  where
    by : (b : Bool) → AreOthers (acks.on_more (with_ack_of w store seq) (durable w) b).1
    by false = tt
    by true = (tt, (tt, (tt, all_others (leases.recalled_pages (with_ack_of w store seq)) _)))
ack_others w other seq = tt

grant_others : (w : Work) (page : Page) (epoch : ℕ) (stamp : Stamp) (tags : List Tag) (vector : List VectorEntry) → AreOthers (leases.on_grant w page epoch stamp tags vector).1
grant_others w page epoch stamp tags vector = by (nat_lt (lease_of w.leases page.0).epoch epoch)
  where
    taken : Work
    taken = leases.takes_page w page epoch stamp tags vector

    image : (b : Bool) → AreOthers (leases.gets_image taken page b).1
    image true = tt
    image false = (tt, tt)

    by : (b : Bool) → AreOthers (leases.on_grant_if w page epoch stamp tags vector b).1
    by false = tt
    by true = image (nat_eq stamp.0 0)

fresh_others : (w : Work) (nth : ℕ) (page : Option Page) → AreOthers (leases.on_fresh w nth page).1
fresh_others w nth page = by (nat_eq nth (w.fresh + 1))
  where
    by : (b : Bool) → AreOthers (leases.on_fresh_if w page b).1
    by true = tt
    by false = tt

page_others : (w : Work) (image : Image) (b : Bool) → AreOthers (leases.on_page_if w image b).1
page_others w image true = tt
page_others w image false = tt

again_others : (w : Work) (page : ℕ) (o : Option Left) → AreOthers (leases.again w page o)
again_others w page None = tt
again_others w page (Some l) = (tt, tt)

recall_others : (w : Work) (page epoch : ℕ) → AreOthers (leases.on_recall w page epoch).1
recall_others w page epoch = by (nat_eq (lease_of w.leases page).epoch epoch)
  where
    in_state : (s : Lease) → AreOthers (leases.on_recall_in w page epoch s).1
    in_state lease.Held = ready_others (record w { leases = recalled w.leases page epoch }) page
    in_state lease.Releasing = again_others w page (fin.get w.left page)
    in_state other = tt

    by : (b : Bool) → AreOthers (leases.on_recall_if w page epoch b).1
    by true = in_state (lease_of w.leases page).state
    by false = tt

released_others : (w : Work) (page epoch : ℕ) (b : Bool) → AreOthers (leases.on_released_if w page epoch b).1
released_others w page epoch true = tt
released_others w page epoch false = tt

want_others : (w : Work) (b : Bool) → AreOthers (acks.beats w b).1
want_others w false = tt
want_others w true = (tt, (tt, (tt, tt)))

ask_others : (w : Work) (t : Txn) (master : ℕ) (b : Bool) → AreOthers (fates.on_ask_own w t master b).1
ask_others w t master true = (tt, tt)
ask_others w t master false = tt

-- ---- a message

-- What a message makes of a life.
pub record Moves (from : Node) (n : Note) (l : Life) (e : LifeEffect) : Type 0 where
  pub roster : (e.0.roster ≡ l.roster) ⊎ (n ≡ note.Roster e.0.roster)
  pub stages : RecoveryBy from n l.recovery e.0.recovery
  pub said : StagesSaid e.0 e.1

same_recovery : (from : Node) (n : Note) (o : Option Recovery) → RecoveryBy from n o o
same_recovery from n None = tt
same_recovery from n (Some r) = inl refl

module _ (from : Node) (n : Note) (l : Life) where
  still : Moves from n l (recovery.unmoved l)
  still = record { roster = inl refl; stages = same_recovery from n l.recovery; said = tt }

  works_on : (e : Effect) → AreOthers e.1 → Moves from n l (does.works l e)
  works_on e others = record { roster = inl refl; stages = same_recovery from n l.recovery; said = others_said _ e.1 others }

  own_on : (writer : Writer) (e : Effect) → AreOthers e.1 → Moves from n l (does.own l writer e)
  own_on writer e others = by (nat_eq writer.0 (writer_of l.work))
    where
      by : (b : Bool) → Moves from n l (does.if_own l b e)
      by true = works_on e others
      by false = still

  under : (writer : Writer) (goes_on : Recovery → LifeEffect) → ((r : Recovery) → l.recovery ≡ Some r → writer ≡ writer_named r.writer → Moves from n l (goes_on r)) → Moves from n l (recovery.recovering l writer.0 goes_on)
  under writer goes_on h = by l.recovery refl
    where
      of : (r : Recovery) (b : Bool) → l.recovery ≡ Some r → nat_eq r.writer writer.0 ≡ b → Moves from n l (recovery.of_recovery l r b goes_on)
      of r true is same = let one : writer.0 ≡ r.writer = grind (arith, nat_tests) in h r is (ap writer_named one)
      of r false is same = still

      by : (o : Option Recovery) → l.recovery ≡ o → Moves from n l (recovery.of_any l writer.0 o goes_on)
      by None is = still
      by (Some r) is = of r (nat_eq r.writer writer.0) is refl

  -- the recovery moves
  moves_to : (r new : Recovery) (s : Stage) → l.recovery ≡ Some r → r.stage ≡ s → new.writer ≡ r.writer → StageBy from n r new s new.stage → RecoveryBy from n l.recovery (Some new)
  moves_to r new s is at same by = subst (λ (o : Option Recovery). RecoveryBy from n o (Some new)) (sym is) (inr (record { writer = same; stage = subst (λ (x : Stage). StageBy from n r new x new.stage) (sym at) by }))

sealed_on : (l : Life) (from : Node) (writer : Writer) (most : ℕ) → Moves from (note.SealedAt writer most) l (recovery.on_sealed_from l writer.0 most from)
sealed_on l (LogStore store) writer most = under _ _ l writer _ (λ r is same. by r is same r.stage refl)
  where
    by : (r : Recovery) → l.recovery ≡ Some r → writer ≡ writer_named r.writer → (s : Stage) → r.stage ≡ s → Moves (LogStore store) (note.SealedAt writer most) l (recovery.on_sealed_in l r store most s)
    by r is same Seal at = record {
      roster = inl refl;
      stages = moves_to (LogStore store) (note.SealedAt writer most) l r (record r { stage = Close store most }) Seal is at refl (refl, ap (λ (x : Writer). note.SealedAt x most) same, refl);
      said = (record { recovery = record r { stage = Close store most }; under_way = refl; writer_is = refl; stage_is = refl }, tt);
    }
    by r is same other at = still _ _ l
sealed_on l other writer most = still _ _ l

-- all of the log was read
to_take_said : (l : Life) (r : Recovery) → StagesSaid (recovery.to_take l r).0 (recovery.to_take l r).1
to_take_said l r = (record { recovery = record r { stage = Take 1 (is_last (pages_of r.scanned) 1) }; last = is_last (pages_of r.scanned) 1; under_way = refl; writer_is = refl; stage_is = refl; rest_is = refl; listed_is = refl }, tt)

closed_on : (l : Life) (from : Node) (writer : Writer) (most store : ℕ) → Moves from (note.Closed writer most store) l (recovery.on_closed l writer.0 store most)
closed_on l from writer most store = under _ _ l writer _ (λ r is same. by r is same r.stage refl)
  where
    n : Note
    n = note.Closed writer most store

    scans : (r : Recovery) (asked_store asked : ℕ) (b : Bool) → l.recovery ≡ Some r → writer ≡ writer_named r.writer → r.stage ≡ Close asked_store asked → nat_eq most 0 ≡ b → Moves from n l (recovery.scans l r store most b)
    scans r asked_store asked true is same at none =
        let one : most ≡ 0 = grind (arith, nat_tests) in
        record {
          roster = inl refl;
          stages = moves_to from n l r (record r { stage = Take 1 (is_last (pages_of r.scanned) 1) }) (Close asked_store asked) is at refl
              (store, ap (λ (x : Writer). note.Closed x most store) same ∙ ap (λ (k : ℕ). note.Closed (writer_named r.writer) k store) one, refl, refl, refl);
          said = to_take_said l r;
        }
    scans r asked_store asked false is same at some = record {
      roster = inl refl;
      stages = moves_to from n l r (record r { stage = Scan store most 1 }) (Close asked_store asked) is at refl (ap (λ (x : Writer). note.Closed x most store) same, refl, grind (arith, nat_tests), refl);
      said = ((store, most, refl, record { recovery = record r { stage = Scan store most 1 }; under_way = refl; writer_is = refl; stage_is = refl }), tt);
    }

    by : (r : Recovery) → l.recovery ≡ Some r → writer ≡ writer_named r.writer → (s : Stage) → r.stage ≡ s → Moves from n l (recovery.on_closed_in l r store most s)
    by r is same (Close asked_store asked) at = scans r asked_store asked (nat_eq most 0) is same at refl
    by r is same other at = still from n l

groups_on : (l : Life) (from : Node) (writer : Writer) (groups : List Group) → Moves from (note.Groups writer groups) l (recovery.on_groups l writer.0 groups)
groups_on l from writer groups = under _ _ l writer _ (λ r is same. by r is same r.stage refl)
  where
    n : Note
    n = note.Groups writer groups

    on : (r : Recovery) (store most next : ℕ) (g : Group) (gs : List Group) (b : Bool) → l.recovery ≡ Some r → writer ≡ writer_named r.writer → r.stage ≡ Scan store most next → in_turn r.writer next most groups ≡ g ∷ gs
        → nat_le (next + length (g ∷ gs)) most ≡ b
        → Moves from n l (recovery.scans_on (record l { work = recovery.hears_groups l.work (g ∷ gs) }) (record r { scanned = r.scanned ++ g ∷ gs }) store most (next + length (g ∷ gs)) b)
    on r store most next g gs true is same at turn less =
        let read : Recovery = record r { scanned = r.scanned ++ g ∷ gs } in
        record {
          roster = inl refl;
          stages = moves_to from n l r (record read { stage = Scan store most (next + length (g ∷ gs)) }) (Scan store most next) is at refl (
            record { groups = groups; says = ap (λ (x : Writer). note.Groups x groups) same; scanned = ap (λ (x : List Group). r.scanned ++ x) (sym turn) },
            refl,
            refl,
            ap (λ (x : List Group). next + length x) (sym turn),
            grind (arith, nat_tests),
          );
          said = ((store, most, refl, record { recovery = record read { stage = Scan store most (next + length (g ∷ gs)) }; under_way = refl; writer_is = refl; stage_is = refl }), tt);
        }
    on r store most next g gs false is same at turn more =
        let read : Recovery = record r { scanned = r.scanned ++ g ∷ gs } in
        let above : most < next + length (g ∷ gs) = grind (arith, nat_tests) in
        record {
          roster = inl refl;
          stages = moves_to from n l r (record read { stage = Take 1 (is_last (pages_of read.scanned) 1) }) (Scan store most next) is at refl (
            record { groups = groups; says = ap (λ (x : Writer). note.Groups x groups) same; scanned = ap (λ (x : List Group). r.scanned ++ x) (sym turn) },
            subst (λ (x : List Group). most < next + length x) (sym turn) above,
            refl,
            refl,
          );
          said = to_take_said (record l { work = recovery.hears_groups l.work (g ∷ gs) }) read;
        }

    some : (r : Recovery) (store most next : ℕ) (gs : List Group) → l.recovery ≡ Some r → writer ≡ writer_named r.writer → r.stage ≡ Scan store most next → in_turn r.writer next most groups ≡ gs
        → Moves from n l (recovery.reads_groups l r store most next gs)
    some r store most next [] is same at turn = still from n l
    some r store most next (g ∷ gs) is same at turn = on r store most next g gs (nat_le (next + length (g ∷ gs)) most) is same at turn refl

    by : (r : Recovery) → l.recovery ≡ Some r → writer ≡ writer_named r.writer → (s : Stage) → r.stage ≡ s → Moves from n l (recovery.on_groups_in l r groups s)
    by r is same (Scan store most next) at = some r store most next (in_turn r.writer next most groups) is same at refl
    by r is same other at = still from n l

taken_on : (l : Life) (from : Node) (writer : Writer) (told : ℕ) → Moves from (note.Taken writer told) l (recovery.on_taken l writer.0 told)
taken_on l from writer told = under _ _ l writer _ (λ r is same. by r is same r.stage refl)
  where
    n : Note
    n = note.Taken writer told

    says : (r : Recovery) (part : ℕ) → writer ≡ writer_named r.writer → nat_eq told part ≡ true → n ≡ note.Taken (writer_named r.writer) part
    says r part same named = let one : told ≡ part = grind (arith, nat_tests) in ap (λ (x : Writer). note.Taken x told) same ∙ ap (λ (k : ℕ). note.Taken (writer_named r.writer) k) one

    on : (r : Recovery) (part : ℕ) (rest b : Bool) → l.recovery ≡ Some r → writer ≡ writer_named r.writer → r.stage ≡ Take part rest → nat_eq told part ≡ b → Moves from n l (recovery.on_taken_if l r part rest b)
    on r part true true is same at named = record {
      roster = inl refl;
      stages = moves_to from n l r (record r { stage = Undo (length (to_undo r.writer r.scanned)) }) (Take part true) is at refl (says r part same named, refl, refl, refl);
      said = tt;
    }
    on r part false true is same at named = record {
      roster = inl refl;
      stages = moves_to from n l r (record r { stage = Take (part + 1) (is_last (pages_of r.scanned) (part + 1)) }) (Take part false) is at refl (says r part same named, refl, refl, refl);
      said = (record { recovery = record r { stage = Take (part + 1) (is_last (pages_of r.scanned) (part + 1)) }; last = is_last (pages_of r.scanned) (part + 1); under_way = refl; writer_is = refl; stage_is = refl; rest_is = refl; listed_is = refl }, tt);
    }
    on r part rest false is same at named = still from n l

    by : (r : Recovery) → l.recovery ≡ Some r → writer ≡ writer_named r.writer → (s : Stage) → r.stage ≡ s → Moves from n l (recovery.on_taken_in l r told s)
    by r is same (Take part rest) at = on r part rest (nat_eq told part) is same at refl
    by r is same other at = still from n l

recovered_on : (l : Life) (from : Node) (writer : Writer) (vector : List VectorEntry) → Moves from (note.Recovered writer vector) l (recovery.on_recovered l writer)
recovered_on l from writer vector = record { roster = inl refl; stages = by l.recovery; said = tt }
  where
    over : (r : Recovery) (b : Bool) → nat_eq r.writer writer.0 ≡ b → RecoveryBy from (note.Recovered writer vector) (Some r) (cond b None (Some r))
    over r true same = let one : writer.0 ≡ r.writer = grind (arith, nat_tests) in inl (vector, ap (λ (k : ℕ). note.Recovered (writer_named k) vector) one)
    over r false same = inl refl

    by : (o : Option Recovery) → RecoveryBy from (note.Recovered writer vector) o (recovery.over_if o writer.0)
    by None = tt
    by (Some r) = over r (nat_eq r.writer writer.0) refl

roster_on : (l : Life) (from : Node) (entries : List RosterEntry) → Moves from (note.Roster entries) l (does.on_roster l entries)
roster_on l from entries = kept (record l { roster = entries; recovery = does.over_by l.recovery (entry_of entries (does.writer_under l.recovery)) }) refl (by l.recovery) (entry_of entries (writer_of l.work))
  where
    n : Note
    n = note.Roster entries

    kept : (k : Life) → k.roster ≡ entries → RecoveryBy from n l.recovery k.recovery → (o : Option RosterEntry) → Moves from n l (does.fenced_by k o, [])
    kept k same h None = record { roster = inr (ap note.Roster (sym same)); stages = h; said = tt }
    kept k same h (Some e) = record { roster = inr (ap note.Roster (sym same)); stages = h; said = tt }

    where_over : (r : Recovery) (e : RosterEntry) (b : Bool) → entry_of entries r.writer ≡ Some e → is_recovered e.state ≡ b → RecoveryBy from n (Some r) (does.over_where (Some r) b)
    where_over r e true is over = inr (record { entries = entries; entry = e; says = refl; listed = is; recovered = over })
    where_over r e false is over = inl refl

    listed : (r : Recovery) (o : Option RosterEntry) → entry_of entries r.writer ≡ o → RecoveryBy from n (Some r) (does.over_by (Some r) o)
    listed r None is = inl refl
    listed r (Some e) is = where_over r e (is_recovered e.state) is refl

    none : (o : Option RosterEntry) → RecoveryBy from n None (does.over_by None o)
    none None = tt
    none (Some e) = nowhere (is_recovered e.state)
      where
        nowhere : (b : Bool) → RecoveryBy from n None (does.over_where None b)
        nowhere true = tt
        nowhere false = tt

    by : (o : Option Recovery) → RecoveryBy from n o (does.over_by o (entry_of entries (does.writer_under o)))
    by None = none (entry_of entries 0)
    by (Some r) = listed r (entry_of entries r.writer) refl

pub note_on : (l : Life) (from : Node) (stamp : ℕ) (n : Note) → Moves from n l (does.on_note l from stamp n)
note_on l from stamp (note.Ack writer seq) = own_on _ _ l writer _ (ack_others l.work from seq)
note_on l from stamp (note.Sealed writer most) = by (nat_eq writer.0 (writer_of l.work))
  where
    by : (b : Bool) → Moves from (note.Sealed writer most) l (does.on_sealed_own l b)
    by true = record { roster = inl refl; stages = same_recovery _ _ l.recovery; said = tt }
    by false = still _ _ l
note_on l from stamp (note.Grant writer page epoch of tags vector) = own_on _ _ l writer _ (grant_others l.work page epoch of tags vector)
note_on l from stamp (note.FreshIs writer nth page) = own_on _ _ l writer _ (fresh_others l.work nth page)
note_on l from stamp (note.Recall writer page epoch) = own_on _ _ l writer _ (recall_others l.work page.0 epoch)
note_on l from stamp (note.Released writer page epoch) =
    own_on _ _ l writer _ (released_others l.work page.0 epoch (is_releasing (lease_of l.work.leases page.0).state && nat_eq (lease_of l.work.leases page.0).epoch epoch))
note_on l from stamp (note.PageIs image) = works_on _ _ l _ (page_others l.work image _)
note_on l from stamp (note.Ask txn master) = works_on _ _ l _ (ask_others l.work txn master (is_own l.work txn))
note_on l from stamp (note.Fate txn ended vector) = works_on _ _ l _ tt
note_on l from stamp (note.Roster entries) = roster_on l from entries
note_on l from stamp (note.Want None) = still _ _ l
note_on l from stamp (note.Want (Some writer)) = own_on _ _ l writer _ (want_others l.work _)
note_on l from stamp (note.SealedAt writer most) = sealed_on l from writer most
note_on l from stamp (note.Closed writer most store) = closed_on l from writer most store
note_on l from stamp (note.Groups writer groups) = groups_on l from writer groups
note_on l from stamp (note.Taken writer part) = taken_on l from writer part
note_on l from stamp (note.Recovered writer vector) = recovered_on l from writer vector
note_on l from stamp other = still _ _ l

-- ---- a command

pub record AskedMoves (asked : Command) (l : Life) (a : LifeAnswer) : Type 0 where
  pub roster : a.life.roster ≡ l.roster
  pub stages : RecoveryAsked asked a.life l.recovery a.life.recovery
  pub said : StagesSaid a.life a.messages

same_asked : (asked : Command) (l : Life) (o : Option Recovery) → RecoveryAsked asked l o o
same_asked asked l None = tt
same_asked asked l (Some r) = inl refl

asked_others : (w : Work) (page : Page) (s : Lease) → AreOthers (asks_for w page s)
asked_others w page lease.None = (tt, tt)
asked_others w page lease.Held = (tt, tt)
asked_others w page other = tt

other_answers : (session : ℕ) → Answered session (λ w a. AreOthers a.messages)
other_answers session = record {
  used = λ w path a h. h;
  said = λ w r plain why. tt;
  wanted = λ w page. asked_others w page (lease_of w.leases page.0).state;
  fresh = λ w wanting spent plan. (tt, tt);
  asked = λ w t is. (tt, tt);
  own_value = λ w value. tt;
  name = λ w t r plain why. tt;
  begin = λ w session. tt;
  tag = λ w page key number value. tt;
  put = λ w p leaf path fresh groups room. tt;
  end = λ w session own committed groups room. tt;
  left = λ w session own rest rows groups some room. tt;
  undone = λ w groups room. tt;
  over = λ w own committed seq is. tt;
}

-- ---- the command of a recovery

-- the recovery moves by the command
module _ (asked : Command) (l : Life) where
  asked_to : (new : Life) (r to : Recovery) (s : Stage) → l.recovery ≡ Some r → r.stage ≡ s → to.writer ≡ r.writer → to.scanned ≡ r.scanned → StageAsked new s to.stage → RecoveryAsked asked new l.recovery (Some to)
  asked_to new r to s is at writer scanned by =
      subst (λ (o : Option Recovery). RecoveryAsked asked new o (Some to)) (sym is) (inr (record { writer = writer; scanned = scanned; stage = subst (λ (x : Stage). StageAsked new x to.stage) (sym at) by }))

  asked_same : (new : Life) → new.recovery ≡ l.recovery → RecoveryAsked asked new l.recovery new.recovery
  asked_same new same = subst (λ (o : Option Recovery). RecoveryAsked asked new l.recovery o) (sym same) (same_asked asked new l.recovery)

  quietly : (r : Reply) → AskedMoves asked l (recovery.life_says l r [])
  quietly r = record { roster = refl; stages = asked_same l refl; said = tt }

  -- all rows are undone
  told_of : (r : Recovery) → StagesSaid (recovery.at_stage l r Told) (recovery.tells_undone l.work r.writer)
  told_of r = (record { recovery = record r { stage = Told }; under_way = refl; writer_is = refl; stage_is = refl }, tt)

  finished : (r : Recovery) (left : ℕ) (o : Awaited) → l.recovery ≡ Some r → r.stage ≡ Undo left → awaited l.work l.undo_seq ≡ o → AskedMoves asked l (recovery.finishes l r [] o)
  finished r left None is at none = record {
    roster = refl;
    stages = asked_to (recovery.at_stage l r Told) r (record r { stage = Told }) (Undo left) is at refl refl (none_awaited l.work l.undo_seq none);
    said = told_of r;
  }
  finished r left (Some (store, seq)) is at some = record { roster = refl; stages = asked_same l refl; said = tt }

  undone : (r : Recovery) (left : ℕ) (a : Answer) (said : Reply) → l.recovery ≡ Some r → r.stage ≡ Undo left → AreOthers a.messages → AskedMoves asked l (recovery.undoes_one l r (left - 1) a said)
  undone r left a reply.Done is at others = by (nat_eq (left - 1) 0) (awaited new.work new.undo_seq) refl
    where
      new : Life
      new = recovery.at_stage (record l { work = a.work; undo_seq = recovery.undo_seq_after l.undo_seq a.work a.groups }) r (Undo (left - 1))

      fewer : RecoveryAsked asked new l.recovery new.recovery
      fewer = asked_to new r (record r { stage = Undo (left - 1) }) (Undo left) is at refl refl refl

      by : (b : Bool) (o : Awaited) → awaited new.work new.undo_seq ≡ o
          → AskedMoves asked l (cond b (recovery.finishes new r a.groups o) (record { life = new; reply = reply.AgainRows (left - 1); groups = a.groups; messages = [] }))
      by true None none = record {
        roster = refl;
        stages = asked_to (recovery.at_stage new r Told) r (record r { stage = Told }) (Undo left) is at refl refl (none_awaited new.work new.undo_seq none);
        said = (record { recovery = record r { stage = Told }; under_way = refl; writer_is = refl; stage_is = refl }, tt);
      }
      by true (Some (store, seq)) some = record { roster = refl; stages = fewer; said = tt }
      by false o some = record { roster = refl; stages = fewer; said = tt }
  undone r left a other is at others = record { roster = refl; stages = asked_same (record l { work = a.work }) refl; said = others_said _ a.messages others }

  undone_next : (r : Recovery) (left : ℕ) (us : List WrittenRow) → l.recovery ≡ Some r → r.stage ≡ Undo left → AskedMoves asked l (recovery.undoes_next l r left us)
  undone_next r left [] is at = finished r left (awaited l.work l.undo_seq) is at refl
  undone_next r left (u ∷ us) is at =
      let a : Answer = undo_next l.work u.row.table u.row.key u.txn in
      undone r left a a.reply is at (undo_says (other_answers 0) l.work u.row.table u.row.key u.txn)

  in_stage : (r : Recovery) (s : Stage) → l.recovery ≡ Some r → r.stage ≡ s → AskedMoves asked l (recovery.recovers_in l r s)
  in_stage r Seal is at =
      let here : IsAt l r.writer Seal = record { recovery = r; under_way = is; writer_is = refl; stage_is = at } in
      record { roster = refl; stages = asked_same l refl; said = (here, (here, (here, tt))) }
  in_stage r (Close store most) is at = record { roster = refl; stages = asked_same l refl; said = (record { recovery = r; under_way = is; writer_is = refl; stage_is = at }, tt) }
  in_stage r (Scan store most next) is at = record { roster = refl; stages = asked_same l refl; said = ((store, most, refl, record { recovery = r; under_way = is; writer_is = refl; stage_is = at }), tt) }
  in_stage r (Take part rest) is at = record { roster = refl; stages = asked_same l refl; said = (record { recovery = r; last = rest; under_way = is; writer_is = refl; stage_is = at; rest_is = refl; listed_is = refl }, tt) }
  in_stage r (Undo left) is at = undone_next r left (recovery.rows_left r left) is at
  in_stage r Told is at = record { roster = refl; stages = asked_same l refl; said = (record { recovery = r; under_way = is; writer_is = refl; stage_is = at }, tt) }
  in_stage r Over is at = quietly _

recover_moves : (l : Life) (writer : Writer) → AskedMoves (command.Recover writer) l (recovery.recover l writer)
recover_moves l writer = by (nat_eq writer.0 (writer_of l.work)) (entry_of l.roster writer.0)
  where
    asked : Command
    asked = command.Recover writer

    other : (r : Recovery) (b : Bool) → l.recovery ≡ Some r → AskedMoves asked l (recovery.recovers_other l r b)
    other r true is = in_stage asked l r r.stage is refl
    other r false is = quietly asked l _

    begins : (new : Life) → new.recovery ≡ Some (recovery.started writer.0) → l.recovery ≡ None → RecoveryAsked asked new l.recovery new.recovery
    begins new is none = subst (λ (o : Option Recovery). RecoveryAsked asked new o new.recovery) (sym none) (subst (λ (o : Option Recovery). RecoveryAsked asked new None o) (sym is) (refl, refl))

    under_way : (o : Option Recovery) → l.recovery ≡ o → AskedMoves asked l (recovery.recovers l writer.0 o)
    under_way None is =
        let new : Life = record l { recovery = Some (recovery.started writer.0); undo_seq = 0 } in
        let here : IsAt new writer.0 Seal = record { recovery = recovery.started writer.0; under_way = refl; writer_is = refl; stage_is = refl } in
        record { roster = refl; stages = begins new refl is; said = (here, (here, (here, tt))) }
    under_way (Some r) is = other r (nat_eq r.writer writer.0) is

    known : (b : Bool) → AskedMoves asked l (recovery.recovers_known l writer b)
    known true = quietly asked l _
    known false = under_way l.recovery refl

    by : (b : Bool) (o : Option RosterEntry) → AskedMoves asked l (recovery.recovers_listed l writer b o)
    by true o = quietly asked l _
    by false None = quietly asked l _
    by false (Some e) = known (sets.contains l.recovered writer || is_recovered e.state)

of_work : (asked : Command) (l : Life) (a : Answer) → AreOthers a.messages → AskedMoves asked l (does.from_work l a)
of_work asked l a others = record { roster = refl; stages = asked_same asked l (record l { work = a.work }) refl; said = others_said _ a.messages others }

pub asked_on : (l : Life) (session : ℕ) (asked : Command) → AskedMoves asked l (does.commanded l session asked)
asked_on l session command.Begin = of_work _ l _ (begin_says (other_answers session) l.work)
asked_on l session (command.Get table key) = of_work _ l _ (get_says (other_answers session) l.work table key)
asked_on l session (command.Put table key value) = of_work _ l _ (put_says (other_answers session) l.work table key (Some value))
asked_on l session (command.Del table key) = of_work _ l _ (put_says (other_answers session) l.work table key None)
asked_on l session command.Commit = of_work _ l _ (commit_says (other_answers session) l.work)
asked_on l session command.Abort = of_work _ l _ (abort_says (other_answers session) l.work)
asked_on l session (command.Recover writer) = recover_moves l writer

-- ---- the state

still_goes : (m : Message) (o : Option Life) → RecoveryGoes m o o
still_goes m None = tt
still_goes m (Some l) = same_recovery m.from m.note l.recovery

still_asked : (asked : Command) (o : Option Life) → RecoveryIsAsked asked o o
still_asked asked None = tt
still_asked asked (Some l) = same_asked asked l l.recovery

none_said : (o : Option Life) → StagesAreSaid o []
none_said None = tt
none_said (Some l) = tt

pub recovery_goes : (s : State) (m : Message) → RecoveryGoes m s.life (step s m).0.life
recovery_goes s m = by s.life refl
  where
    in_life : (l : Life) (b : Bool) → s.life ≡ Some l → RecoveryGoes m (Some l) (does.step_in s l m b).0.life
    in_life l true is = subst (λ (o : Option Life). RecoveryGoes m (Some l) o) (sym is) (still_goes m (Some l))
    in_life l false is = (note_on (does.heard l m.stamp.0) m.from m.stamp.0 m.note).stages

    by : (o : Option Life) → s.life ≡ o → RecoveryGoes m o (does.step_by s m o).0.life
    by None is = subst (λ (o : Option Life). RecoveryGoes m None (does.step_by s m o).0.life) is (joins_or_not (λ o. RecoveryGoes m None o) s m is tt (λ l joins. ap (λ (x : Life). x.recovery) joins.life))
    by (Some l) is = in_life l l.fenced is

pub recovery_is_asked : (s : State) (session : ℕ) (asked : Command) → RecoveryIsAsked asked s.life (on_command s session asked).0.life
recovery_is_asked s session asked = by s.life refl
  where
    in_life : (l : Life) (b : Bool) → s.life ≡ Some l → RecoveryIsAsked asked (Some l) (does.command_in s l session asked b).0.life
    in_life l true is = subst (λ (o : Option Life). RecoveryIsAsked asked (Some l) o) (sym is) (still_asked asked (Some l))
    in_life l false is = (asked_on l session asked).stages

    by : (o : Option Life) → s.life ≡ o → RecoveryIsAsked asked o (does.command_by s session asked o).0.life
    by None is = subst (λ (o : Option Life). RecoveryIsAsked asked None o) (sym is) tt
    by (Some l) is = in_life l l.fenced is

pub roster_came : (s : State) (m : Message) → (roster_in (step s m).0.life ≡ roster_in s.life) ⊎ (m.note ≡ note.Roster (roster_in (step s m).0.life))
roster_came s m = by s.life refl
  where
    in_life : (l : Life) (b : Bool) → s.life ≡ Some l → (roster_in (does.step_in s l m b).0.life ≡ l.roster) ⊎ (m.note ≡ note.Roster (roster_in (does.step_in s l m b).0.life))
    in_life l true is = inl (ap roster_in is)
    in_life l false is = (note_on (does.heard l m.stamp.0) m.from m.stamp.0 m.note).roster

    by : (o : Option Life) → s.life ≡ o → (roster_in (does.step_by s m o).0.life ≡ roster_in o) ⊎ (m.note ≡ note.Roster (roster_in (does.step_by s m o).0.life))
    by None is = inl (subst (λ (o : Option Life). roster_in (does.step_by s m o).0.life ≡ []) is (joins_or_not (λ o. roster_in o ≡ []) s m is refl (λ l joins. ap (λ (x : Life). x.roster) joins.life)))
    by (Some l) is = in_life l l.fenced is

pub roster_stays : (s : State) (session : ℕ) (asked : Command) → roster_in (on_command s session asked).0.life ≡ roster_in s.life
roster_stays s session asked = by s.life refl
  where
    in_life : (l : Life) (b : Bool) → s.life ≡ Some l → roster_in (does.command_in s l session asked b).0.life ≡ l.roster
    in_life l true is = ap roster_in is
    in_life l false is = (asked_on l session asked).roster

    by : (o : Option Life) → s.life ≡ o → roster_in (does.command_by s session asked o).0.life ≡ roster_in o
    by None is = ap roster_in is
    by (Some l) is = in_life l l.fenced is

pub stages_by_message : (s : State) (m : Message) → StagesAreSaid (step s m).0.life (step s m).1
stages_by_message s m = by s.life
  where
    in_life : (l : Life) (b : Bool) → StagesAreSaid (does.step_in s l m b).0.life (does.step_in s l m b).1
    in_life l true = none_said s.life
    in_life l false = (note_on (does.heard l m.stamp.0) m.from m.stamp.0 m.note).said

    by : (o : Option Life) → StagesAreSaid (does.step_by s m o).0.life (does.step_by s m o).1
    by None = none_said (does.joins s m.stamp.0 m.note).life
    by (Some l) = in_life l l.fenced

both_said : (l : Life) (xs ys : List Message) → StagesSaid l xs → StagesSaid l ys → StagesSaid l (xs ++ ys)
both_said l [] ys h k = k
both_said l (x ∷ xs) ys h k = (h.0, both_said l xs ys h.1 k)

pub stages_by_command : (s : State) (session : ℕ) (asked : Command) → StagesAreSaid (on_command s session asked).0.life (on_command s session asked).2
stages_by_command s session asked = by s.life
  where
    in_life : (l : Life) (b : Bool) → StagesAreSaid (does.command_in s l session asked b).0.life (does.command_in s l session asked b).2
    in_life l true = none_said s.life
    in_life l false =
        let a : LifeAnswer = does.commanded l session asked in
        both_said a.life (acks.appends a.life.work a.groups) a.messages (others_said a.life (acks.appends a.life.work a.groups) (appends_others a.life.work a.groups)) (asked_on l session asked).said

    by : (o : Option Life) → StagesAreSaid (does.command_by s session asked o).0.life (does.command_by s session asked o).2
    by None = none_said s.life
    by (Some l) = in_life l l.fenced

-- ---- a tick

resends_others : (w : Work) (store : ℕ) → AreOthers (acks.resends w store)
resends_others w store = both_others (map (λ g. acks.append w g store) (resent w.log.groups store)) (acks.stable_if w store (nat_lt 0 (durable w))) (groups (resent w.log.groups store)) (if_stable (nat_lt 0 (durable w)))
  where
    groups : (gs : List Group) → AreOthers (map (λ g. acks.append w g store) gs)
    groups [] = tt
    groups (g ∷ gs) = (tt, groups gs)

    if_stable : (b : Bool) → AreOthers (acks.stable_if w store b)
    if_stable false = tt
    if_stable true = (tt, tt)

releases_others : (w : Work) (ps : List ℕ) → AreOthers (acks.releases_again w ps)
releases_others w [] = tt
releases_others w (p ∷ ps) = both_others (leases.again w p (fin.get w.left p)) (acks.releases_again w ps) (again_others w p (fin.get w.left p)) (releases_others w ps)

ticked_others : (w : Work) → AreOthers (acks.ticked w)
ticked_others w =
    let again : List Message = acks.releases_again w (leases.releasing_pages w) in
    both_others (((acks.resends w 1 ++ acks.resends w 2) ++ acks.resends w 3) ++ again) _
    (both_others ((acks.resends w 1 ++ acks.resends w 2) ++ acks.resends w 3) again
    (both_others (acks.resends w 1 ++ acks.resends w 2) (acks.resends w 3) (both_others (acks.resends w 1) (acks.resends w 2) (resends_others w 1) (resends_others w 2)) (resends_others w 3))
    (releases_others w (leases.releasing_pages w)))
    (tt, tt)

pub stages_by_tick : (s : State) → StagesAreSaid s.life (tick s)
stages_by_tick s = by s.life
  where
    in_life : (l : Life) (b : Bool) → StagesSaid l (does.tick_in l b)
    in_life l true = tt
    in_life l false = others_said l (acks.ticked l.work) (ticked_others l.work)

    by : (o : Option Life) → StagesAreSaid o (does.tick_by s o)
    by None = tt
    by (Some l) = in_life l l.fenced
