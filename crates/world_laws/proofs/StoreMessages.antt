-- How a delivery to a log store moves the world, and what it sends.
use Rattle.std.proofs.Common.{◌≡◌, ◌≢◌, ◌≤◌, ℕ, Bool, true, false, cond, nat_eq, List, [], ◌∷◌, ◌++◌, length, Option, Some, None, inl, inr, refl, sym, subst, ap, ◌∙◌, arith}
use Rattle.std.proofs.lemmas.Bool.Decides.{nat_tests}
use Rattle.std.proofs.lemmas.List.{append-nil}
use Rattle.std.specs.List.{AllByRecursion}
use Rattle.std.specs.Ordering.{nat_cmp}
use Rattle.std.specs.FinMap.{FinMap}
use Rattle.std.specs.FinMap as fin
use Rattle.tm_base.specs.declared.message.Message.{Message}
use Rattle.tm_base.specs.declared.message.Node.TheVariants.{Master, LogStore, PageStore, LockManager, Replica}
use Rattle.lock_model.specs.State as locks
use Rattle.lock_model.specs.Goes as lock_goes
use Rattle.lock_model.specs.Runs.{LogEnd}
use Rattle.master_model.specs.declared.recovery.Stage.{Stage}
use Rattle.master_model.specs.declared.recovery.Stage.TheVariants as stage
use Rattle.master_model.specs.State.{Recovery}
use Rattle.store_model.specs.LogState.{LogStoreState, log_of, start}
use Rattle.store_model.specs.LogStep.{stepped}
use Rattle.store_model.specs.LogGoes.{BringsOf, Goes, IsOf}
use Rattle.store_model.specs.LogStarts.{is_journalled, reopened}
use Rattle.lock_model.specs.Told as lock_told
use Rattle.master_model.specs.Told.{IsLogStore}
use Rattle.replica_model.specs.Told.{IsQuestion}
use Rattle.store_model.specs.PageAnswers.{IsPageNote}
use Rattle.tm_base.specs.declared.message.Node.{Node}
use Rattle.tm_base.specs.declared.message.Note.{Note}
use Rattle.tm_base.specs.declared.message.Note.TheVariants as note
use Rattle.store_model.specs.LogTold as store_told
use Rattle.world_model.specs.Disk.{Disk, Worked, appended}
use Rattle.world_model.specs.World.{World, log_disk_of, or_blank}
use Rattle.world_model.specs.Nodes.{log_keeps, log_takes, message_size}
use Rattle.world_laws.specs.Beside.{Beside, acked_by, log_by}
use Rattle.world_laws.specs.Kept.{IsOneOfThree, end_of, hard, log_kept, locks_kept}
use Rattle.world_laws.specs.Invariant.{StoreDeliveryHolds}
use Rattle.world_laws.specs.Lives.{LivesHold, RecoveryFact, StageFact}
use Rattle.world_laws.specs.LogStores.{LogStoreFacts, RunsFrom, StoresHold}
use Rattle.world_laws.specs.Messages.{AllSay, MasterSays, Says, SaysFrom, SealCause, SealFrom, StoreDeliveryGoes, StoreDeliverySays, View, ViewGoes, boots_of, view}
use Rattle.world_laws.proofs.MessageLemmas.{TellLaws, sayings_bring, sayings_stay}
use Rattle.world_laws.proofs.StoreLemmas.{Leaves, StoreLaws, get_here, leaves, sealed_stays, set_other, store_delivery_keeps}

-- ---- how the world goes on

pub record SentLaws : Type 0 where
  pub of_store : StoreLaws
  pub tells : TellLaws
  pub lock_still : (s : locks.State) → lock_goes.Goes s s
  pub is : (s : LogStoreState) (m : Message) → AllByRecursion (store_told.MessageIs (stepped s m).0 m.from m.note) (stepped s m).1
  pub sent : (s : LogStoreState) (m : Message) (most : ℕ → ℕ) → ((writer : ℕ) → (log_of (stepped s m).0 writer).mark ≤ most writer)
      → AllByRecursion (store_told.MessageFact (stepped s m).0 most) (stepped s m).1

-- A world that differs in the disks of log stores alone goes on as these do.
pub disks_go : SentLaws → (w : World) (b : Beside) (t : World) → t.lock_disk ≡ w.lock_disk → t.boots ≡ w.boots
    → ((number : ℕ) → Goes (log_kept w number) (log_kept t number)) → ViewGoes (view w b) (view t b)
disks_go law w b t same_locks same_boots goes = record {
  stores = goes;
  of_locks = subst (λ (d : Disk Message). lock_goes.Goes (locks_kept w) (locks_kept (record w { lock_disk = d }))) (sym same_locks) (law.lock_still (locks_kept w));
  logs = λ writer. ([], sym (append-nil (log_by b writer)));
  most = λ writer. subst (λ (d : Disk Message). hard w b writer ≤ hard (record w { lock_disk = d }) b writer) (sym same_locks) (at_itself (hard w b writer));
  boots = λ number. subst (λ (m : FinMap nat_cmp ℕ). boots_of w number ≤ boots_of (record w { boots = m }) number) (sym same_boots) (at_itself (boots_of w number));
}
  where
    at_itself : (n : ℕ) → n ≤ n
    at_itself n = omega arith

-- One disk is another.
pub one_disk : StoreLaws → (disks : FinMap nat_cmp (Disk Message)) (number : ℕ) (d : Disk Message)
    → Goes (reopened (start number) (or_blank (fin.get disks number)).records) (reopened (start number) d.records)
    → (n : ℕ) → Goes (reopened (start n) (or_blank (fin.get disks n)).records) (reopened (start n) (or_blank (fin.get (fin.insert disks number d) n)).records)
one_disk law disks number d goes n = by (nat_eq n number) refl
  where
    To : ℕ → Option (Disk Message) → Type 0
    To k o = Goes (reopened (start k) (or_blank (fin.get disks k)).records) (reopened (start k) (or_blank o).records)

    by : (b : Bool) → nat_eq n number ≡ b → To n (fin.get (fin.insert disks number d) n)
    by true is =
        let one : n ≡ number = grind (arith, nat_tests) in
        subst (λ k. To k (fin.get (fin.insert disks number d) k)) (sym one) (subst (To number) (sym (get_here disks number d)) goes)
    by false is =
        let apart : n ≢ number = λ one. absurd (let e : nat_eq n number ≡ true = grind (arith, nat_tests) in cc (e, is)) in
        subst (To n) (sym (set_other disks number d n apart)) (law.still (reopened (start n) (or_blank (fin.get disks n)).records))

-- ---- what is sent

pub both : {X : Type 0} (P : X → Type 0) (xs ys : List X) → AllByRecursion P xs → AllByRecursion P ys → AllByRecursion P (xs ++ ys)
both P [] ys h k = k
both P (x ∷ xs) ys h k = (h.0, both P xs ys h.1 k)

pub each : {X : Type 0} (P Q : X → Type 0) → ((x : X) → P x → Q x) → (xs : List X) → AllByRecursion P xs → AllByRecursion Q xs
each P Q f [] h = tt
each P Q f (x ∷ xs) h = (f x h.0, each P Q f xs h.1)

pub all_both : {X : Type 0} (P Q : X → Type 0) (xs : List X) → AllByRecursion P xs → AllByRecursion Q xs → AllByRecursion (λ (x : X). P x × Q x) xs
all_both P Q [] h k = tt
all_both P Q (x ∷ xs) h k = ((h.0, k.0), all_both P Q xs h.1 k.1)

-- The length of a sealed log is named to who asked to seal it.
seal_from : (number : ℕ) (s : LogStoreState) (cause n : Note) → SealCause number cause → store_told.NoteIs s cause n → SealFrom number n
seal_from number s (note.Seal named) (note.SealedAt writer length) of h = of
seal_from number s cause (note.SealedAt writer length) of h = absurd h
seal_from number s cause n of h = tt

one_of_three : (number : ℕ) (to : Node) → to ≡ LogStore number → IsLogStore to → IsOneOfThree number
one_of_three number to is (inl h) = inl (cc (is, h))
one_of_three number to is (inr (inl h)) = inr (inl (cc (is, h)))
one_of_three number to is (inr (inr h)) = inr (inr (cc (is, h)))

-- A seal goes to one of the three log stores.
master_seals : (v : View) (from number : ℕ) (to : Node) (n : Note) → to ≡ LogStore number → MasterSays v from to n → SealCause number n
master_seals v from number to (note.Seal writer) is h = one_of_three number to is h
master_seals v from number to n is h = tt

store_seals : (v : View) (from number : ℕ) (n : Note) → store_told.NoteFact (v.stores from) v.most n → SealCause number n
store_seals v from number (note.Seal writer) h = absurd h
store_seals v from number n h = tt

page_seals : (number : ℕ) (n : Note) → IsPageNote n → SealCause number n
page_seals number (note.Seal writer) h = absurd h
page_seals number n h = tt

lock_seals : (v : View) (number : ℕ) (to : Node) (sent : ℕ) (n : Note) → lock_told.NoteFact v.of_locks to sent n → SealCause number n
lock_seals v number to sent (note.Seal writer) h = absurd h
lock_seals v number to sent n h = tt

replica_seals : (number : ℕ) (n : Note) → IsQuestion n → SealCause number n
replica_seals number (note.Seal writer) h = absurd h
replica_seals number n h = tt

seals : (v : View) (number : ℕ) (m : Message) (node : Node) → m.to ≡ LogStore number → SaysFrom v m node → SealCause number m.note
seals v number m (Master from) is h = master_seals v from number m.to m.note is h
seals v number m (LogStore from) is h = store_seals v from number m.note h.0.note
seals v number m (PageStore from) is h = page_seals number m.note h
seals v number m LockManager is h = lock_seals v number m.to m.stamp.0 m.note h.note
seals v number m (Replica from) is h = replica_seals number m.note h

-- A message of a log store's, in a world where its disk gives what the store has.
pub one_says : SentLaws → (v : View) (number : ℕ) (s : LogStoreState) (m : Message) → s.number ≡ number → Goes s (v.stores number) → store_told.MessageFact s v.most m → SealFrom number m.note → Says v m
one_says law v number s m named goes h seal =
    let later : store_told.MessageFact (v.stores number) v.most m = law.tells.stores s (v.stores number) v.most v.most m goes (λ writer. at_itself (v.most writer)) h in
    subst (SaysFrom v m) (sym (h.sender ∙ ap (λ (n : ℕ). LogStore n) named)) (later, seal)
  where
    at_itself : (n : ℕ) → n ≤ n
    at_itself n = omega arith

-- ---- lives

stage_goes : (old new : ℕ → LogStoreState) → ((number : ℕ) → Goes (old number) (new number)) → (end : Option LogEnd) (writer : ℕ) (s : Stage)
    → StageFact old end writer s → StageFact new end writer s
stage_goes old new goes end writer (stage.Close store length) h = (h.0, sealed_stays _ _ length ((goes store).logs writer) h.1)
stage_goes old new goes end writer s h = h

recovery_goes : (old new : ℕ → LogStoreState) → ((number : ℕ) → Goes (old number) (new number)) → (ends : ℕ → Option LogEnd) (o : Option Recovery)
    → RecoveryFact old ends o → RecoveryFact new ends o
recovery_goes old new goes ends None h = h
recovery_goes old new goes ends (Some r) h = stage_goes old new goes (ends r.writer) r.writer r.stage h

-- No life speaks of a log store, but a recovery that has asked for a close.
pub lives_stay : (w : World) (b : Beside) (stores : FinMap nat_cmp LogStoreState) (disks : FinMap nat_cmp (Disk Message)) (sent : List Message)
    → ((number : ℕ) → Goes (log_kept w number) (log_kept (record w { log = stores; log_disk = disks; sent = sent }) number))
    → LivesHold w b → LivesHold (record w { log = stores; log_disk = disks; sent = sent }) b
lives_stay w b stores disks sent goes h = record {
  lock = h.lock;
  boots = h.boots;
  lives = λ writer l is.
      let f = h.lives writer l is in
      record {
        named = f.named;
        entry = f.entry;
        known = f.known;
        master = f.master;
        facts = f.facts;
        log_kept = f.log_kept;
        epochs = f.epochs;
        roster = f.roster;
        recovery = recovery_goes (log_kept w) (log_kept (record w { log = stores; log_disk = disks; sent = sent })) goes (end_of w) l.recovery f.recovery;
      };
  none = h.none;
  masters = h.masters;
  ends = h.ends;
  past = h.past;
  closed = h.closed;
}

-- ---- a delivery

-- What a delivery leads to: the world goes on, says what is so, and keeps what holds of the masters.
record LeadsTo (w : World) (b : Beside) (number : ℕ) (cause : Note) (t : World) : Type 0 where
  goes : ViewGoes (view w b) (view t b)
  lives : LivesHold w b → LivesHold t b
  says : SealCause number cause → AllSay (view w b) w.sent → AllSay (view t b) t.sent

pub all_stay : SentLaws → (old new : View) → ViewGoes old new → (ms : List Message) → AllSay old ms → AllSay new ms
all_stay law old new goes ms h = each (Says old) (Says new) (λ m. sayings_stay law.tells old new m goes) ms h

keeps : SentLaws → (w : World) (b : Beside) (number : ℕ) (s : LogStoreState) (m : Message) (k : Worked Message)
    → IsOf (log_by b) (hard w b) (stepped s m).0
    → Leaves (log_by b) (hard w b) (acked_by b number) (end_of w) number (log_disk_of w number).records (stepped s m).0 k
    → LeadsTo w b number m.note (log_keeps w number (stepped s m).0 (stepped s m).1 k).world
keeps law w b number s m k of leaves = by k.done refl
  where
    new : LogStoreState
    new = (stepped s m).0

    by : (c : Bool) → k.done ≡ c → LeadsTo w b number m.note (log_keeps w number new (stepped s m).1 (record { disk = k.disk; done = c })).world
    by true is =
        let t = (log_keeps w number new (stepped s m).1 (record { disk = k.disk; done = true })).world in
        let goes : ViewGoes (view w b) (view t b) = disks_go law w b t refl refl (one_disk law.of_store w.log_disk number k.disk leaves.goes) in
        let named : new.number ≡ number = sym (leaves.same is).number ∙ leaves.disk.named in
        let to : Goes new (log_kept t number) =
        subst (λ (o : Option (Disk Message)). Goes new (reopened (start number) (or_blank o).records)) (sym (get_here w.log_disk number k.disk))
        (law.of_store.same_goes new (reopened (start number) k.disk.records) (leaves.same is)) in
        record {
          goes = goes;
          lives = lives_stay w b t.log t.log_disk t.sent goes.stores;
          says = λ cause h. both (Says (view t b)) w.sent (stepped s m).1 (all_stay law (view w b) (view t b) goes w.sent h)
              (each (λ (x : Message). store_told.MessageFact new (hard w b) x × SealFrom number x.note) (Says (view t b)) (λ x f. one_says law (view t b) number new x named to f.0 f.1) (stepped s m).1
              (all_both (store_told.MessageFact new (hard w b)) (λ (x : Message). SealFrom number x.note) (stepped s m).1 (law.sent s m (hard w b) of.marks)
              (each (store_told.MessageIs new m.from m.note) (λ (x : Message). SealFrom number x.note) (λ x f. seal_from number new m.note x.note cause f.note) (stepped s m).1 (law.is s m))));
        }
    by false is =
        let t = (log_keeps w number new (stepped s m).1 (record { disk = k.disk; done = false })).world in
        let goes : ViewGoes (view w b) (view t b) = disks_go law w b t refl refl (one_disk law.of_store w.log_disk number k.disk leaves.goes) in
        record { goes = goes; lives = lives_stay w b t.log t.log_disk t.sent goes.stores; says = λ cause h. both (Says (view t b)) w.sent [] (all_stay law (view w b) (view t b) goes w.sent h) tt }

takes : SentLaws → (w : World) (b : Beside) (number : ℕ) (m : Message) → BringsOf (log_by b) (hard w b) m.note → StoresHold w b
    → (o : Option LogStoreState) → fin.get w.log number ≡ o → LeadsTo w b number m.note (log_takes w number m o).world
takes law w b number m brings h None is =
    let t = (log_takes w number m None).world in
    let goes : ViewGoes (view w b) (view t b) = disks_go law w b t refl refl (λ n. law.of_store.still (log_kept w n)) in
    record { goes = goes; lives = lives_stay w b t.log t.log_disk t.sent goes.stores; says = λ cause said. both (Says (view t b)) w.sent [] (all_stay law (view w b) (view t b) goes w.sent said) tt }
takes law w b number m brings h (Some s) is =
    let here : LogStoreFacts (log_by b) (hard w b) (acked_by b number) (end_of w) number (log_kept w number) (Some s) =
    subst (LogStoreFacts (log_by b) (hard w b) (acked_by b number) (end_of w) number (log_kept w number)) is (h number) in
    let runs : RunsFrom (log_by b) (hard w b) (log_kept w number) s = here.runs in
    keeps law w b number s m (cond (is_journalled s (stepped s m).0 m.note) (appended message_size (log_disk_of w number) m) (record { disk = log_disk_of w number; done = true }))
    (law.of_store.step_of (log_by b) (hard w b) s m brings runs.of)
    (leaves (log_by b) (hard w b) (acked_by b number) (end_of w) number law.of_store s m (log_disk_of w number) brings runs.same here.disk)

pub store_delivery_goes : SentLaws → StoreDeliveryGoes
store_delivery_goes law w b number m brings h = (takes law w b number m brings h (fin.get w.log number) refl).goes

pub store_delivery_says : SentLaws → StoreDeliverySays
store_delivery_says law w b number m brings cause h = (takes law w b number m brings h (fin.get w.log number) refl).says cause

pub store_delivery_holds : SentLaws → StoreDeliveryHolds
store_delivery_holds law w b number m to says h =
    let brings : BringsOf (log_by b) (hard w b) m.note = sayings_bring w b m says in
    let leads = takes law w b number m brings h.stores (fin.get w.log number) refl in
    record { holds = record { stores = store_delivery_keeps law.of_store w b number m brings h.stores; lives = leads.lives h.lives; sent = leads.says (seals (view w b) number m m.from to says) h.sent }; goes = leads.goes }
