-- Page stores, replicas, and masters that start or stop keep the invariant.
use Rattle.std.proofs.Common.{◌≡◌, ◌≢◌, ◌≤◌, ◌+◌, ℕ, Bool, true, false, nat_eq, List, [], ◌∷◌, ◌++◌, Option, Some, None, Ok, Err, refl, sym, subst, ap, ◌∙◌, arith}
use Rattle.std.proofs.lemmas.Bool.Decides.{nat_tests}
use Rattle.std.proofs.lemmas.List.{append-nil}
use Rattle.std.specs.List.{AllByRecursion}
use Rattle.std.specs.Ordering.{nat_cmp}
use Rattle.std.specs.FinMap.{FinMap}
use Rattle.std.specs.FinMap as fin
use Rattle.std.specs.FinSet.{FinSet}
use Rattle.std.specs.FinSet as sets
use Rattle.tm_data.specs.Orders.{writer_cmp}
use Rattle.std.specs.declared.result.Result.{Result}
use Rattle.tm_data.specs.declared.image.Image.{Image}
use Rattle.tm_data.specs.declared.transaction.Page.{Page}
use Rattle.tm_data.specs.declared.vector.VectorEntry.{VectorEntry}
use Rattle.tm_base.specs.declared.message.Message.{Message}
use Rattle.tm_base.specs.declared.message.Node.{Node}
use Rattle.tm_base.specs.declared.message.Node.TheVariants.{Master, LogStore, PageStore, LockManager, Replica}
use Rattle.tm_base.specs.declared.message.Note.{Note}
use Rattle.tm_base.specs.declared.message.Note.TheVariants as note
use Rattle.tm_base.specs.declared.step.Step.TheVariants as step
use Rattle.master_model.specs.State.{State}
use Rattle.master_model.specs.Step as master_step
use Rattle.replica_model.specs.State as replica
use Rattle.replica_model.specs.Reads.{Full, Unpublished, Waits}
use Rattle.replica_model.specs.Reads as replica_reads
use Rattle.replica_model.specs.Step as replica_step
use Rattle.replica_model.specs.Told as replica_told
use Rattle.store_model.specs.declared.refusal.ReadRefusal.{ReadRefusal}
use Rattle.store_model.specs.PageAnswers as page_told
use Rattle.store_model.specs.PageReads.{read_at, read_version, wants}
use Rattle.store_model.specs.PageState.{PageStoreState}
use Rattle.store_model.specs.PageStep as page_step
use Rattle.world_model.specs.Disk.{Disk, Worked, appended_all, arm, opened}
use Rattle.world_model.specs.World.{World, Effect, Item, Past, or_zero, shelf_of}
use Rattle.world_model.specs.Nodes.{answer_of, answers_page, item_size, items_by, page_keeps, page_takes, page_ticks, replica_takes, replica_ticks}
use Rattle.world_model.specs.Step.{begins, if_up, master_starts, page_at, page_opens, published, publishes, reads_page, runs, starts, gets, lags, scans, version_at, wants_after, world_step}
use Rattle.world_laws.specs.Beside.{Beside}
use Rattle.world_laws.specs.Invariant.{ApartDeliveryHolds, ApartStepHolds, LogsHold, MayStop, StepKeeps}
use Rattle.world_laws.specs.Kept.{hard, locks_kept, log_kept}
use Rattle.world_laws.specs.Lives.{BootFacts, MasterFact}
use Rattle.world_laws.specs.Messages.{AllSay, Says, SaysFrom, View, ViewGoes, view}
use Rattle.world_laws.proofs.LockMoves.{StillLaws, at_itself, at_most, view_still}
use Rattle.world_laws.proofs.MessageLemmas.{sayings_stay}
use Rattle.world_laws.proofs.StoreLemmas.{get_here, gone_here, gone_other, set_other}
use Rattle.world_laws.proofs.StoreMessages.{both, each}

pub record ApartLaws : Type 0 where
  pub still : StillLaws
  pub page_step_sent : (s : PageStoreState) (m : Message) → AllByRecursion (page_told.IsSentBy s) (page_step.stepped s m).1
  pub page_tick_sent : (s : PageStoreState) → AllByRecursion (page_told.IsSentBy s) (page_step.ticked s).1
  pub page_wants_sent : (s : PageStoreState) (why : ReadRefusal) (stamp : ℕ) → AllByRecursion (page_told.IsSentBy s) (wants s why stamp)
  pub replica_step_sent : (s : replica.State) (m : Message) → AllByRecursion (replica_told.IsSentBy s) (replica_step.step s m).1
  pub replica_tick_sent : (s : replica.State) → AllByRecursion (replica_told.IsSentBy s) (replica_step.ticked s).1

-- ---- what changes nothing of it

abbrev pub apart : World → FinMap nat_cmp PageStoreState → FinMap nat_cmp (Disk Item) → FinMap nat_cmp replica.State → FinMap nat_cmp ℕ → Past → List Message → World
apart w page shelf replica lives past messages = record w { page = page; shelf = shelf; replica = replica; lives = lives; past = past; sent = w.sent ++ messages }

pub apart_holds : StillLaws → (w : World) (b : Beside) (page : FinMap nat_cmp PageStoreState) (shelf : FinMap nat_cmp (Disk Item)) (replica : FinMap nat_cmp replica.State) (lives : FinMap nat_cmp ℕ)
    (past : Past) (messages : List Message) → past.hard ≡ w.past.hard → past.ended ≡ w.past.ended → AllSay (view w b) messages → LogsHold w b → StepKeeps w b (apart w page shelf replica lives past messages) b
apart_holds law w b page shelf replica lives past messages same ended says h = record {
  goes = view_still law w b;
  holds = record {
    stores = h.stores;
    lives = record {
      lock = h.lives.lock;
      boots = h.lives.boots;
      lives = h.lives.lives;
      none = h.lives.none;
      masters = h.lives.masters;
      ends = h.lives.ends;
      past = λ writer. ap (λ (hs : FinMap nat_cmp ℕ). or_zero (fin.get hs writer)) same ∙ h.lives.past writer;
      closed = λ writer. ap (λ (ws : FinSet writer_cmp). sets.contains ws writer) ended ∙ h.lives.closed writer;
    };
    sent = both (Says (view w b)) w.sent messages h.sent says;
  };
}

pub nothing_holds : StillLaws → (w : World) (b : Beside) → LogsHold w b → StepKeeps w b (apart w w.page w.shelf w.replica w.lives w.past []) b
nothing_holds law w b h = apart_holds law w b w.page w.shelf w.replica w.lives w.past [] refl refl tt h

page_says : (v : View) (s : PageStoreState) (ms : List Message) → AllByRecursion (page_told.IsSentBy s) ms → AllSay v ms
page_says v s ms h = each (page_told.IsSentBy s) (Says v) (λ m f. subst (SaysFrom v m) (sym f.sender) f.kind) ms h

replica_says : (v : View) (s : replica.State) (ms : List Message) → AllByRecursion (replica_told.IsSentBy s) ms → AllSay v ms
replica_says v s ms h = each (replica_told.IsSentBy s) (Says v) (λ m f. subst (SaysFrom v m) (sym f.sender) f.kind) ms h

-- ---- page stores

-- An answer that is kept of the run is no matter.
answer_hard : (p : Past) (stamp : ℕ) (n : Note) → (answer_of p stamp n).hard ≡ p.hard
answer_hard p stamp (note.PageIs image) = refl
answer_hard p stamp n = refl

answers_hard : (p : Past) (stamp : ℕ) (ms : List Message) → (answers_page p stamp ms).hard ≡ p.hard
answers_hard p stamp [] = refl
answers_hard p stamp (m ∷ ms) = answers_hard (answer_of p stamp m.note) stamp ms ∙ answer_hard p stamp m.note

answer_ended : (p : Past) (stamp : ℕ) (n : Note) → (answer_of p stamp n).ended ≡ p.ended
answer_ended p stamp (note.PageIs image) = refl
answer_ended p stamp n = refl

answers_ended : (p : Past) (stamp : ℕ) (ms : List Message) → (answers_page p stamp ms).ended ≡ p.ended
answers_ended p stamp [] = refl
answers_ended p stamp (m ∷ ms) = answers_ended (answer_of p stamp m.note) stamp ms ∙ answer_ended p stamp m.note

page_kept : ApartLaws → (w : World) (b : Beside) (number : ℕ) (m : Message) (new : PageStoreState) (messages : List Message) (k : Worked Item) → AllSay (view w b) messages → LogsHold w b
    → StepKeeps w b (page_keeps w number m new messages k).world b
page_kept law w b number m new messages k says h = by k.done
  where
    by : (c : Bool) → StepKeeps w b (page_keeps w number m new messages (record { disk = k.disk; done = c })).world b
    by true =
        apart_holds law.still w b (fin.insert w.page number new) (fin.insert w.shelf number k.disk) w.replica w.lives (answers_page w.past m.stamp.0 messages) messages
        (answers_hard w.past m.stamp.0 messages) (answers_ended w.past m.stamp.0 messages) says h
    by false = apart_holds law.still w b (fin.remove w.page number) (fin.insert w.shelf number k.disk) w.replica w.lives w.past [] refl refl tt h

page_taken : ApartLaws → (w : World) (b : Beside) (number : ℕ) (m : Message) → LogsHold w b → (o : Option PageStoreState) → StepKeeps w b (page_takes w number m o).world b
page_taken law w b number m h None = nothing_holds law.still w b h
page_taken law w b number m h (Some s) =
    page_kept law w b number m (page_step.stepped s m).0 (page_step.stepped s m).1 (appended_all item_size (items_by s m.note) (shelf_of w number))
    (page_says (view w b) s (page_step.stepped s m).1 (law.page_step_sent s m)) h

page_ticked : ApartLaws → (w : World) (b : Beside) (number : ℕ) → LogsHold w b → (o : Option PageStoreState) → StepKeeps w b (page_ticks w number o).world b
page_ticked law w b number h None = nothing_holds law.still w b h
page_ticked law w b number h (Some s) =
    apart_holds law.still w b (fin.insert w.page number (page_step.ticked s).0) w.shelf w.replica w.lives w.past (page_step.ticked s).1 refl refl
    (page_says (view w b) s (page_step.ticked s).1 (law.page_tick_sent s)) h

page_opened : ApartLaws → (w : World) (b : Beside) (number : ℕ) (k : Worked Item) → LogsHold w b → StepKeeps w b (page_opens w number k).world b
page_opened law w b number k h = by k.done
  where
    by : (c : Bool) → StepKeeps w b (page_opens w number (record { disk = k.disk; done = c })).world b
    by true = apart_holds law.still w b _ (fin.insert w.shelf number k.disk) w.replica w.lives w.past [] refl refl tt h
    by false = apart_holds law.still w b w.page (fin.insert w.shelf number k.disk) w.replica w.lives w.past [] refl refl tt h

page_read : ApartLaws → (w : World) (b : Beside) (number stamp : ℕ) (s : PageStoreState) → LogsHold w b → (found : Result Image ReadRefusal)
    → StepKeeps w b (reads_page w number stamp (wants_after s stamp found) found).world b
page_read law w b number stamp s h (Ok image) = apart_holds law.still w b w.page w.shelf w.replica w.lives _ [] refl refl tt h
page_read law w b number stamp s h (Err why) =
    apart_holds law.still w b w.page w.shelf w.replica w.lives w.past (wants s why stamp) refl refl (page_says (view w b) s (wants s why stamp) (law.page_wants_sent s why stamp)) h

version_read : ApartLaws → (w : World) (b : Beside) (number stamp : ℕ) → LogsHold w b → (found : Result Image ReadRefusal) → StepKeeps w b (reads_page w number stamp [] found).world b
version_read law w b number stamp h (Ok image) = apart_holds law.still w b w.page w.shelf w.replica w.lives _ [] refl refl tt h
version_read law w b number stamp h (Err why) = nothing_holds law.still w b h

-- ---- replicas

replica_taken : ApartLaws → (w : World) (b : Beside) (number : ℕ) (m : Message) → LogsHold w b → (o : Option replica.State) → StepKeeps w b (replica_takes w number m o).world b
replica_taken law w b number m h None = nothing_holds law.still w b h
replica_taken law w b number m h (Some s) =
    apart_holds law.still w b w.page w.shelf (fin.insert w.replica number (replica_step.step s m).0) w.lives w.past (replica_step.step s m).1 refl refl
    (replica_says (view w b) s (replica_step.step s m).1 (law.replica_step_sent s m)) h

replica_ticked : ApartLaws → (w : World) (b : Beside) (number : ℕ) → LogsHold w b → (o : Option replica.State) → StepKeeps w b (replica_ticks w number o).world b
replica_ticked law w b number h None = nothing_holds law.still w b h
replica_ticked law w b number h (Some s) =
    apart_holds law.still w b w.page w.shelf (fin.insert w.replica number (replica_step.ticked s).0) w.lives w.past (replica_step.ticked s).1 refl refl
    (replica_says (view w b) s (replica_step.ticked s).1 (law.replica_tick_sent s)) h

point_holds : ApartLaws → (w : World) (b : Beside) (number : ℕ) (new : replica.State) → LogsHold w b → (found : Result ℕ Unpublished) → StepKeeps w b (published w number new found).world b
point_holds law w b number new h (Ok point) = apart_holds law.still w b w.page w.shelf (fin.insert w.replica number new) w.lives _ [] refl refl tt h
point_holds law w b number new h (Err (Waits e)) = nothing_holds law.still w b h
point_holds law w b number new h (Err Full) = nothing_holds law.still w b h

-- ---- masters

-- A master stops.
master_gone : ApartLaws → (w : World) (b : Beside) (number : ℕ) → LogsHold w b → StepKeeps w b (record w { master = fin.remove w.master number; sent = w.sent ++ [] }) b
master_gone law w b number h = record {
  goes = view_still law.still w b;
  holds = record {
    stores = h.stores;
    lives = record {
      lock = h.lives.lock;
      boots = h.lives.boots;
      lives = h.lives.lives;
      none = h.lives.none;
      masters = λ n s is. by n s is (nat_eq n number) refl;
      ends = h.lives.ends;
      past = h.lives.past;
      closed = h.lives.closed;
    };
    sent = both (Says (view w b)) w.sent [] h.sent tt;
  };
}
  where
    by : (n : ℕ) (s : State) → fin.get (fin.remove w.master number) n ≡ Some s → (c : Bool) → nat_eq n number ≡ c → MasterFact (locks_kept w).writers b (or_zero (fin.get w.boots n)) n s
    by n s is true same =
        let one : n ≡ number = grind (arith, nat_tests) in
        let gone : fin.get (fin.remove w.master number) n ≡ None = ap (λ (k : ℕ). fin.get (fin.remove w.master number) k) one ∙ gone_here w.master number in
        absurd (cc (sym gone ∙ is))
    by n s is false other =
        let apart : n ≢ number = λ one. absurd (let yes : nat_eq n number ≡ true = grind (arith, nat_tests) in cc (yes, other)) in
        h.lives.masters n s (sym (gone_other w.master number n apart) ∙ is)

-- A master starts, and registers its next boot number.
module _ (w : World) (b : Beside) (number : ℕ) where
  abbrev boot : ℕ
  boot = or_zero (fin.get w.boots number) + 1

  abbrev boots : FinMap nat_cmp ℕ
  boots = fin.insert w.boots number boot

  abbrev waits : State
  waits = master_step.waiting number boot w.page_stores

  here : or_zero (fin.get boots number) ≡ boot
  here = ap or_zero (get_here w.boots number boot)

  rises : (n : ℕ) → or_zero (fin.get w.boots n) ≤ or_zero (fin.get boots n)
  rises n = by (nat_eq n number) refl
    where
      by : (c : Bool) → nat_eq n number ≡ c → or_zero (fin.get w.boots n) ≤ or_zero (fin.get boots n)
      by true is =
          let one : n ≡ number = grind (arith, nat_tests) in
          subst (λ (k : ℕ). or_zero (fin.get w.boots k) ≤ or_zero (fin.get boots k)) (sym one) (omega (arith, here))
      by false is =
          let apart : n ≢ number = λ one. absurd (let yes : nat_eq n number ≡ true = grind (arith, nat_tests) in cc (yes, is)) in
          subst (λ (o : Option ℕ). or_zero (fin.get w.boots n) ≤ or_zero o) (sym (set_other w.boots number boot n apart)) (at_itself (or_zero (fin.get w.boots n)))

  boots_rise : BootFacts (locks_kept w).writers (λ n. or_zero (fin.get w.boots n)) → BootFacts (locks_kept w).writers (λ n. or_zero (fin.get boots n))
  boots_rise h writer e is = let f = h writer e is in (f.0, at_most e.boot (or_zero (fin.get w.boots e.master)) (or_zero (fin.get boots e.master)) f.1 (rises e.master))

  -- No writer was numbered for the new boot.
  waits_fact : BootFacts (locks_kept w).writers (λ n. or_zero (fin.get w.boots n)) → MasterFact (locks_kept w).writers b (or_zero (fin.get boots number)) number waits
  waits_fact h = record {
    named = refl;
    boot = sym here;
    first = omega arith;
    joined = λ writer e is master same.
        let f = h writer e is in
        let low : e.boot ≤ or_zero (fin.get w.boots number) = subst (λ (k : ℕ). e.boot ≤ or_zero (fin.get w.boots k)) master f.1 in
        absurd (omega (arith, low, same));
  }

  masters_start : LogsHold w b → (n : ℕ) (s : State) → fin.get (fin.insert w.master number waits) n ≡ Some s → MasterFact (locks_kept w).writers b (or_zero (fin.get boots n)) n s
  masters_start h n s is = by (nat_eq n number) refl
    where
      by : (c : Bool) → nat_eq n number ≡ c → MasterFact (locks_kept w).writers b (or_zero (fin.get boots n)) n s
      by true same =
          let one : n ≡ number = grind (arith, nat_tests) in
          let new : waits ≡ s = cc (sym (get_here w.master number waits) ∙ (ap (λ (k : ℕ). fin.get (fin.insert w.master number waits) k) (sym one) ∙ is)) in
          subst (λ (x : State). MasterFact (locks_kept w).writers b (or_zero (fin.get boots n)) n x) new
          (subst (λ (k : ℕ). MasterFact (locks_kept w).writers b (or_zero (fin.get boots k)) k waits) (sym one) (waits_fact h.lives.boots))
      by false other =
          let apart : n ≢ number = λ one. absurd (let yes : nat_eq n number ≡ true = grind (arith, nat_tests) in cc (yes, other)) in
          let f = h.lives.masters n s (sym (set_other w.master number waits n apart) ∙ is) in
          subst (λ (o : Option ℕ). MasterFact (locks_kept w).writers b (or_zero o) n s) (sym (set_other w.boots number boot n apart)) f

  start_goes : ApartLaws → ViewGoes (view w b) (view (master_starts w number).world b)
  start_goes law = record {
    stores = λ n. law.still.of_moves.store_still (log_kept w n);
    of_locks = law.still.lock_still (locks_kept w);
    logs = λ writer. ([], sym (append-nil _));
    most = λ writer. at_itself (hard w b writer);
    boots = rises;
  }

  pub master_started : ApartLaws → LogsHold w b → StepKeeps w b (master_starts w number).world b
  master_started law h =
      let t = (master_starts w number).world in
      record {
        goes = start_goes law;
        holds = record {
          stores = h.stores;
          lives = record {
            lock = h.lives.lock;
            boots = boots_rise h.lives.boots;
            lives = h.lives.lives;
            none = h.lives.none;
            masters = masters_start h;
            ends = h.lives.ends;
            past = h.lives.past;
            closed = h.lives.closed;
          };
          sent = both (Says (view t b)) w.sent (master_step.registers waits ∷ [])
              (each (Says (view w b)) (Says (view t b)) (λ m. sayings_stay law.still.of_moves.tells (view w b) (view t b) m (start_goes law)) w.sent h.sent)
              ((omega arith, subst (λ (k : ℕ). boot ≤ k) (sym here) (at_itself boot)), tt);
        };
      }

-- ---- each of them

pub apart_delivery_holds : ApartLaws → ApartDeliveryHolds
apart_delivery_holds law w b m (PageStore number) of h = page_taken law w b number m h (fin.get w.page number)
apart_delivery_holds law w b m (Replica number) of h = replica_taken law w b number m h (fin.get w.replica number)
apart_delivery_holds law w b m (Master number) of h = absurd of
apart_delivery_holds law w b m (LogStore number) of h = absurd of
apart_delivery_holds law w b m LockManager of h = absurd of

up : ApartLaws → (w : World) (b : Beside) (node : Node) (c : Bool) (e : Effect) → LogsHold w b → StepKeeps w b e.world b → StepKeeps w b (if_up w node c e).world b
up law w b node true e h k = k
up law w b node false e h k = nothing_holds law.still w b h

pub started : ApartLaws → (w : World) (b : Beside) (node : Node) (c : Bool) → LogsHold w b → StepKeeps w b (begins w node).world b → StepKeeps w b (starts w node c).world b
started law w b node true h k = nothing_holds law.still w b h
started law w b node false h k = k

page_asked : ApartLaws → (w : World) (b : Beside) (number stamp : ℕ) (page : Page) → LogsHold w b → (o : Option PageStoreState) → StepKeeps w b (page_at w number page stamp o).world b
page_asked law w b number stamp page h None = nothing_holds law.still w b h
page_asked law w b number stamp page h (Some s) = page_read law w b number stamp s h (read_at s page stamp)

version_asked : ApartLaws → (w : World) (b : Beside) (number stamp : ℕ) (page : Page) → LogsHold w b → (o : Option PageStoreState) → StepKeeps w b (version_at w number page stamp o).world b
version_asked law w b number stamp page h None = nothing_holds law.still w b h
version_asked law w b number stamp page h (Some s) = version_read law w b number stamp h (read_version s page stamp)

point_asked : ApartLaws → (w : World) (b : Beside) (number : ℕ) (bound : List VectorEntry) → LogsHold w b → (o : Option replica.State) → StepKeeps w b (publishes w number bound o).world b
point_asked law w b number bound h None = nothing_holds law.still w b h
point_asked law w b number bound h (Some s) = point_holds law w b number (replica_reads.publish s bound).0 h (replica_reads.publish s bound).1

lag_asked : ApartLaws → (w : World) (b : Beside) (number : ℕ) → LogsHold w b → (o : Option replica.State) → StepKeeps w b (lags w number o).world b
lag_asked law w b number h None = nothing_holds law.still w b h
lag_asked law w b number h (Some s) = nothing_holds law.still w b h

get_asked : ApartLaws → (w : World) (b : Beside) (number point table : ℕ) (key : List ℕ) → LogsHold w b → (o : Option replica.State) → StepKeeps w b (gets w number point table key o).world b
get_asked law w b number point table key h None = nothing_holds law.still w b h
get_asked law w b number point table key h (Some s) = nothing_holds law.still w b h

scan_asked : ApartLaws → (w : World) (b : Beside) (number point table : ℕ) (from : Option (List ℕ)) (count : ℕ) → LogsHold w b → (o : Option replica.State) → StepKeeps w b (scans w number point table from count o).world b
scan_asked law w b number point table from count h None = nothing_holds law.still w b h
scan_asked law w b number point table from count h (Some s) = nothing_holds law.still w b h

pub node_begins : ApartLaws → (w : World) (b : Beside) (node : Node) → MayStop node → LogsHold w b → StepKeeps w b (begins w node).world b
node_begins law w b (Master number) of h = master_started w b number law h
node_begins law w b (PageStore number) of h = page_opened law w b number (opened item_size (shelf_of w number)) h
node_begins law w b (Replica number) of h = apart_holds law.still w b w.page w.shelf _ _ w.past [] refl refl tt h
node_begins law w b (LogStore number) of h = absurd of
node_begins law w b LockManager of h = absurd of

node_stops : ApartLaws → (w : World) (b : Beside) (node : Node) (mode : ℕ) → MayStop node → LogsHold w b → StepKeeps w b (world_step w (step.Stop node mode)).world b
node_stops law w b (Master number) mode of h = up law w b (Master number) (runs w (Master number)) _ h (master_gone law w b number h)
node_stops law w b (PageStore number) mode of h = up law w b (PageStore number) (runs w (PageStore number)) _ h (apart_holds law.still w b (fin.remove w.page number) w.shelf w.replica w.lives w.past [] refl refl tt h)
node_stops law w b (Replica number) mode of h = up law w b (Replica number) (runs w (Replica number)) _ h (apart_holds law.still w b w.page w.shelf (fin.remove w.replica number) w.lives w.past [] refl refl tt h)
node_stops law w b (LogStore number) mode of h = absurd of
node_stops law w b LockManager mode of h = absurd of

disk_fails : ApartLaws → (w : World) (b : Beside) (node : Node) (call mode : ℕ) → MayStop node → LogsHold w b → StepKeeps w b (world_step w (step.Fail node call mode)).world b
disk_fails law w b (Master number) call mode of h = up law w b (Master number) (runs w (Master number)) _ h (nothing_holds law.still w b h)
disk_fails law w b (PageStore number) call mode of h =
    up law w b (PageStore number) (runs w (PageStore number)) _ h (apart_holds law.still w b w.page (fin.insert w.shelf number (arm (shelf_of w number) call mode)) w.replica w.lives w.past [] refl refl tt h)
disk_fails law w b (Replica number) call mode of h = up law w b (Replica number) (runs w (Replica number)) _ h (nothing_holds law.still w b h)
disk_fails law w b (LogStore number) call mode of h = absurd of
disk_fails law w b LockManager call mode of h = absurd of

pub apart_step_holds : ApartLaws → ApartStepHolds
apart_step_holds law w b (step.Do number session asked) of h = absurd of
apart_step_holds law w b (step.Deliver number) of h = absurd of
apart_step_holds law w b (step.Lose number) of h = nothing_holds law.still w b h
apart_step_holds law w b (step.Tick (PageStore number)) of h = page_ticked law w b number h (fin.get w.page number)
apart_step_holds law w b (step.Tick (Replica number)) of h = replica_ticked law w b number h (fin.get w.replica number)
apart_step_holds law w b (step.Tick (Master number)) of h = absurd of
apart_step_holds law w b (step.Tick (LogStore number)) of h = absurd of
apart_step_holds law w b (step.Tick LockManager) of h = absurd of
apart_step_holds law w b (step.Stop node mode) of h = node_stops law w b node mode of h
apart_step_holds law w b (step.Start node) of h = started law w b node (runs w node) h (node_begins law w b node of h)
apart_step_holds law w b (step.Fail node call mode) of h = disk_fails law w b node call mode of h
apart_step_holds law w b (step.Page number page stamp) of h = page_asked law w b number stamp.0 page h (fin.get w.page number)
apart_step_holds law w b (step.Version number page stamp) of h = version_asked law w b number stamp.0 page h (fin.get w.page number)
apart_step_holds law w b (step.Publish number bound) of h = point_asked law w b number bound h (fin.get w.replica number)
apart_step_holds law w b (step.Lag number) of h = lag_asked law w b number h (fin.get w.replica number)
apart_step_holds law w b (step.Get number point table key) of h = get_asked law w b number point table key h (fin.get w.replica number)
apart_step_holds law w b (step.Scan number point table from count) of h = scan_asked law w b number point table from count h (fin.get w.replica number)
