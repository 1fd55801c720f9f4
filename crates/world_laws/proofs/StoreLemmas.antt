-- A delivery to a log store keeps what holds of the log stores.
use Rattle.std.proofs.Common.{◌≡◌, ◌≢◌, ◌≤◌, ◌+◌, ℕ, Bool, true, false, cond, nat_eq, List, [], ◌∷◌, ◌++◌, length, Option, Some, None, refl, sym, subst, ap, ◌∙◌, arith}
use Rattle.std.proofs.lemmas.Bool.Decides.{nat_tests}
use Rattle.std.proofs.lemmas.List.{length-append}
use Rattle.std.specs.List.{AllByRecursion}
use Rattle.std.specs.Ordering.{nat_cmp}
use Rattle.std.specs.FinMap.{FinMap, gets}
use Rattle.std.specs.FinMap as fin
use Rattle.tm_data.specs.declared.log.Group.{Group}
use Rattle.tm_base.specs.declared.message.Message.{Message}
use Rattle.lock_model.specs.Runs.{LogEnd}
use Rattle.store_model.specs.LogState.{Log, LogStoreState, log_of, start}
use Rattle.store_model.specs.LogStep.{on_note, stepped}
use Rattle.store_model.specs.LogFacts.{Facts, IsSealedWith}
use Rattle.store_model.specs.LogGoes.{BringsOf, Goes, IsFront, IsOf, LogGoes}
use Rattle.store_model.specs.LogStarts.{IsSame, is_journalled, reopened}
use Rattle.world_model.specs.Disk.{Armed, Disk, Worked, appended, appended_as, failing, is_kept}
use Rattle.world_model.specs.World.{World, log_disk_of, or_blank}
use Rattle.world_model.specs.Nodes.{log_keeps, log_takes, message_size}
use Rattle.world_laws.specs.Beside.{Beside, acked_by, log_by}
use Rattle.world_laws.specs.Frame.{SameButOne}
use Rattle.world_laws.specs.Kept.{end_of, hard, log_kept}
use Rattle.world_laws.specs.LogStores.{DiskFacts, LogStoreFacts, RunsFrom, StoreDeliveryKeeps, StoresHold}

-- The laws of a log store, as its crate has them.
pub record StoreLaws : Type 0 where
  pub step_facts : (s : LogStoreState) (m : Message) → Facts s → Facts (stepped s m).0
  pub start_facts : (s : LogStoreState) (kept : List Message) → Facts s → Facts (reopened s kept)
  pub step_of : (logs : ℕ → List Group) (most : ℕ → ℕ) (s : LogStoreState) (m : Message) → BringsOf logs most m.note → IsOf logs most s → IsOf logs most (stepped s m).0
  pub kept_of : (logs : ℕ → List Group) (most : ℕ → ℕ) (s : LogStoreState) (kept : List Message) → AllByRecursion (λ m. BringsOf logs most m.note) kept → IsOf logs most s → IsOf logs most (reopened s kept)
  pub step_kept : (s kept : LogStoreState) (m : Message) → IsSame s kept
      → IsSame (stepped s m).0 (on_note kept m.from m.note).0 × (is_journalled s (stepped s m).0 m.note ≡ false → IsSame (stepped s m).0 kept)
  pub step_goes : (s : LogStoreState) (m : Message) → Goes s (stepped s m).0
  pub same_goes : (s t : LogStoreState) → IsSame s t → Goes s t
  pub still : (s : LogStoreState) → Goes s s
  pub goes_on : (a b c : LogStoreState) → Goes a b → Goes b c → Goes a c

-- ---- the disk's state goes on

turned : (s t : LogStoreState) → IsSame s t → IsSame t s
turned s t h = record { number = sym h.number; groups = λ w. sym (h.groups w); seals = λ w. sym (h.seals w) }

-- What a store's disk gives goes on as the store does, where it keeps the message.
pub kept_goes : StoreLaws → (s kept : LogStoreState) (m : Message) → IsSame s kept → Goes kept (on_note kept m.from m.note).0
kept_goes law s kept m h =
    law.goes_on kept s (on_note kept m.from m.note).0 (law.same_goes kept s (turned s kept h))
    (law.goes_on s (stepped s m).0 (on_note kept m.from m.note).0 (law.step_goes s m) (law.same_goes (stepped s m).0 (on_note kept m.from m.note).0 (law.step_kept s kept m h).0))

front_longer : (xs ys : List Group) (n : ℕ) → IsFront xs ys → n ≤ length xs → n ≤ length ys
front_longer xs ys n f low =
    let long : length ys ≡ length xs + length f.0 = ap (λ (zs : List Group). length zs) f.1 ∙ length-append xs f.0 in
    omega (arith, long, low)

pub sealed_stays : (old new : Log) (n : ℕ) → LogGoes old new → IsSealedWith old n → IsSealedWith new n
sealed_stays old new n g h =
    let still = g.sealed h.sealed in
    record { sealed = still.0; long = ap (λ (xs : List Group). length xs) still.1 ∙ h.long }

-- So what holds of the disk's state holds of it later.
disk_goes : (logs : ℕ → List Group) (most : ℕ → ℕ) (acked : ℕ → ℕ → Bool) (ends : ℕ → Option LogEnd) (number : ℕ) (old new : LogStoreState)
    → Goes old new → Facts new → IsOf logs most new → DiskFacts logs most acked ends number old → DiskFacts logs most acked ends number new
disk_goes logs most acked ends number old new goes facts of h = record {
  named = goes.number ∙ h.named;
  facts = facts;
  of = of;
  acks = λ writer seq is. front_longer (log_of old writer).groups (log_of new writer).groups seq (goes.logs writer).front (h.acks writer seq is);
  ended = λ writer end is here. sealed_stays (log_of old writer) (log_of new writer) end.length (goes.logs writer) (h.ended writer end is here);
}

-- ---- a message is kept, or not

reopened_one : (s : LogStoreState) (ms : List Message) (m : Message) → reopened s (ms ++ m ∷ []) ≡ (on_note (reopened s ms) m.from m.note).0
reopened_one s [] m = refl
reopened_one s (x ∷ ms) m = reopened_one (on_note s x.from x.note).0 ms m

module _ (logs : ℕ → List Group) (most : ℕ → ℕ) (acked : ℕ → ℕ → Bool) (ends : ℕ → Option LogEnd) (number : ℕ) where
  abbrev pub state_of : List Message → LogStoreState
  state_of ms = reopened (start number) ms

  -- What a store leaves that took a message: its disk, and itself if its disk did all.
  pub record Leaves (old : List Message) (new : LogStoreState) (k : Worked Message) : Type 0 where
    pub disk : DiskFacts logs most acked ends number (state_of k.disk.records)
    pub goes : Goes (state_of old) (state_of k.disk.records)
    pub same : k.done ≡ true → IsSame new (state_of k.disk.records)

  -- The disk with the message.
  longer : StoreLaws → (s : LogStoreState) (m : Message) (ms : List Message) → BringsOf logs most m.note → IsSame s (state_of ms)
      → DiskFacts logs most acked ends number (state_of ms)
      → DiskFacts logs most acked ends number (state_of (ms ++ m ∷ [])) × IsSame (stepped s m).0 (state_of (ms ++ m ∷ [])) × Goes (state_of ms) (state_of (ms ++ m ∷ []))
  longer law s m ms brings same h =
      let kept = state_of ms in
      let there : state_of (ms ++ m ∷ []) ≡ (on_note kept m.from m.note).0 = reopened_one (start number) ms m in
      let facts : Facts (on_note kept m.from m.note).0 = law.start_facts kept (m ∷ []) h.facts in
      let of : IsOf logs most (on_note kept m.from m.note).0 = law.kept_of logs most kept (m ∷ []) (brings, tt) h.of in
      let after = disk_goes logs most acked ends number kept (on_note kept m.from m.note).0 (kept_goes law s kept m same) facts of h in (
        subst (DiskFacts logs most acked ends number) (sym there) after,
        subst (IsSame (stepped s m).0) (sym there) (law.step_kept s kept m same).0,
        subst (Goes kept) (sym there) (kept_goes law s kept m same),
      )

  leaves_kept : StoreLaws → (s : LogStoreState) (m : Message) (d : Disk Message) (body : ℕ) → BringsOf logs most m.note → IsSame s (state_of d.records)
      → DiskFacts logs most acked ends number (state_of d.records) → (o : Option Armed) → Leaves d.records (stepped s m).0 (appended_as d m body o)
  leaves_kept law s m d body brings same h None =
      let more = longer law s m d.records brings same h in
      record { disk = more.0; goes = more.2; same = λ is. more.1 }
  leaves_kept law s m d body brings same h (Some a) = record {
    disk = (by (is_kept a)).0;
    goes = (by (is_kept a)).1;
    same = λ is. absurd (cc is);
  }
    where
      by : (b : Bool) → DiskFacts logs most acked ends number (state_of (cond b (d.records ++ m ∷ []) d.records)) × Goes (state_of d.records) (state_of (cond b (d.records ++ m ∷ []) d.records))
      by true = let more = longer law s m d.records brings same h in (more.0, more.2)
      by false = (h, law.still (state_of d.records))

  pub leaves : StoreLaws → (s : LogStoreState) (m : Message) (d : Disk Message) → BringsOf logs most m.note → IsSame s (state_of d.records)
      → DiskFacts logs most acked ends number (state_of d.records)
      → Leaves d.records (stepped s m).0 (cond (is_journalled s (stepped s m).0 m.note) (appended message_size d m) (record { disk = d; done = true }))
  leaves law s m d brings same h = by (is_journalled s (stepped s m).0 m.note) refl
    where
      by : (b : Bool) → is_journalled s (stepped s m).0 m.note ≡ b → Leaves d.records (stepped s m).0 (cond b (appended message_size d m) (record { disk = d; done = true }))
      by true is = leaves_kept law s m d (message_size m) brings same h (failing 4 d.armed)
      by false is = record { disk = h; goes = law.still (state_of d.records); same = λ done. (law.step_kept s (state_of d.records) m same).1 is }

-- ---- all stores

-- What holds of the store of a number, with this disk, which runs in this state or is stopped.
abbrev pub At : (ℕ → List Group) → (ℕ → ℕ) → (ℕ → ℕ → ℕ → Bool) → (ℕ → Option LogEnd) → ℕ → Option (Disk Message) → Option LogStoreState → Type 0
At logs most acked ends n d o = LogStoreFacts logs most (acked n) ends n (reopened (start n) (or_blank d).records) o

-- One store and its disk change.
pub each_at : (logs : ℕ → List Group) (most : ℕ → ℕ) (acked : ℕ → ℕ → ℕ → Bool) (ends : ℕ → Option LogEnd) (number : ℕ)
    (disks new_disks : FinMap nat_cmp (Disk Message)) (stores new_stores : FinMap nat_cmp LogStoreState)
    → SameButOne number disks new_disks → SameButOne number stores new_stores
    → ((n : ℕ) → At logs most acked ends n (fin.get disks n) (fin.get stores n))
    → At logs most acked ends number (fin.get new_disks number) (fin.get new_stores number)
    → (n : ℕ) → At logs most acked ends n (fin.get new_disks n) (fin.get new_stores n)
each_at logs most acked ends number disks new_disks stores new_stores disks_same stores_same h here n = by (nat_eq n number) refl
  where
    by : (b : Bool) → nat_eq n number ≡ b → At logs most acked ends n (fin.get new_disks n) (fin.get new_stores n)
    by true is =
        let one : n ≡ number = grind (arith, nat_tests) in
        subst (λ k. At logs most acked ends k (fin.get new_disks k) (fin.get new_stores k)) (sym one) here
    by false is =
        let apart : n ≢ number = λ one. absurd (let e : nat_eq n number ≡ true = grind (arith, nat_tests) in cc (e, is)) in
        subst (λ o. At logs most acked ends n (fin.get new_disks n) o) (sym (stores_same n apart))
        (subst (λ d. At logs most acked ends n d (fin.get stores n)) (sym (disks_same n apart)) (h n))

pub get_here : {X : Type 0} (m : FinMap nat_cmp X) (number : ℕ) (x : X) → fin.get (fin.insert m number x) number ≡ Some x
get_here m number x = grind (arith, nat_tests, gets)

pub gone_here : {X : Type 0} (m : FinMap nat_cmp X) (number : ℕ) → fin.get (fin.remove m number) number ≡ None
gone_here m number = grind (arith, nat_tests, gets)

pub set_other : {X : Type 0} (m : FinMap nat_cmp X) (number : ℕ) (x : X) → SameButOne number m (fin.insert m number x)
set_other m number x other apart = grind (arith, nat_tests, gets)

pub gone_other : {X : Type 0} (m : FinMap nat_cmp X) (number : ℕ) → SameButOne number m (fin.remove m number)
gone_other m number other apart = grind (arith, nat_tests, gets)

-- ---- the world

keeps : (w : World) (b : Beside) (number : ℕ) (new : LogStoreState) (messages : List Message) (k : Worked Message)
    → Facts new → IsOf (log_by b) (hard w b) new → Leaves (log_by b) (hard w b) (acked_by b number) (end_of w) number (log_disk_of w number).records new k → StoresHold w b
    → StoresHold (log_keeps w number new messages k).world b
keeps w b number new messages k facts of leaves h = by k.done refl
  where
    by : (c : Bool) → k.done ≡ c → StoresHold (cond c (log_keeps w number new messages (record { disk = k.disk; done = true })) (log_keeps w number new messages (record { disk = k.disk; done = false }))).world b
    by true is =
        each_at (log_by b) (hard w b) (acked_by b) (end_of w) number w.log_disk (fin.insert w.log_disk number k.disk) w.log (fin.insert w.log number new)
        (set_other w.log_disk number k.disk) (set_other w.log number new) h
        (subst (λ o. At (log_by b) (hard w b) (acked_by b) (end_of w) number (fin.get (fin.insert w.log_disk number k.disk) number) o) (sym (get_here w.log number new))
        (subst (λ d. At (log_by b) (hard w b) (acked_by b) (end_of w) number d (Some new)) (sym (get_here w.log_disk number k.disk))
        (record { disk = leaves.disk; runs = record { same = leaves.same is; facts = facts; of = of } })))
    by false is =
        each_at (log_by b) (hard w b) (acked_by b) (end_of w) number w.log_disk (fin.insert w.log_disk number k.disk) w.log (fin.remove w.log number)
        (set_other w.log_disk number k.disk) (gone_other w.log number) h
        (subst (λ o. At (log_by b) (hard w b) (acked_by b) (end_of w) number (fin.get (fin.insert w.log_disk number k.disk) number) o) (sym (gone_here w.log number))
        (subst (λ d. At (log_by b) (hard w b) (acked_by b) (end_of w) number d None) (sym (get_here w.log_disk number k.disk))
        (record { disk = leaves.disk; runs = tt })))

takes : StoreLaws → (w : World) (b : Beside) (number : ℕ) (m : Message) → BringsOf (log_by b) (hard w b) m.note → StoresHold w b
    → (o : Option LogStoreState) → fin.get w.log number ≡ o → StoresHold (log_takes w number m o).world b
takes law w b number m brings h None is = h
takes law w b number m brings h (Some s) is =
    let here : LogStoreFacts (log_by b) (hard w b) (acked_by b number) (end_of w) number (log_kept w number) (Some s) =
    subst (LogStoreFacts (log_by b) (hard w b) (acked_by b number) (end_of w) number (log_kept w number)) is (h number) in
    let runs : RunsFrom (log_by b) (hard w b) (log_kept w number) s = here.runs in
    keeps w b number (stepped s m).0 (stepped s m).1 (cond (is_journalled s (stepped s m).0 m.note) (appended message_size (log_disk_of w number) m) (record { disk = log_disk_of w number; done = true }))
    (law.step_facts s m runs.facts) (law.step_of (log_by b) (hard w b) s m brings runs.of)
    (leaves (log_by b) (hard w b) (acked_by b number) (end_of w) number law s m (log_disk_of w number) brings runs.same here.disk) h

pub store_delivery_keeps : StoreLaws → StoreDeliveryKeeps
store_delivery_keeps law w b number m brings h = takes law w b number m brings h (fin.get w.log number) refl
