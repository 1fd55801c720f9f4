-- A log store ticks, stops and starts, and its disk is to fail.
use Rattle.std.proofs.Common.{◌≡◌, ◌+◌, ℕ, Bool, true, false, nat_le, List, [], ◌++◌, Option, Some, None, refl, sym, subst, ◌∙◌}
use Rattle.std.specs.List.{AllByRecursion}
use Rattle.std.specs.Ordering.{nat_cmp}
use Rattle.std.specs.FinMap.{FinMap}
use Rattle.std.specs.FinMap as fin
use Rattle.tm_base.specs.declared.message.Message.{Message}
use Rattle.tm_base.specs.declared.message.Node.TheVariants.{LogStore}
use Rattle.tm_base.specs.declared.step.Step.TheVariants as step
use Rattle.store_model.specs.LogState.{LogStoreState, start}
use Rattle.store_model.specs.LogStep.{ticked}
use Rattle.store_model.specs.LogGoes.{Goes}
use Rattle.store_model.specs.LogStarts.{reopened}
use Rattle.store_model.specs.LogTold as store_told
use Rattle.world_model.specs.Disk.{Armed, Disk, Worked, arm, failing, made_as, opened, opened_by, read_as, reads}
use Rattle.world_model.specs.World.{World, Effect, log_disk_of, or_blank}
use Rattle.world_model.specs.Nodes.{log_ticks, message_size}
use Rattle.world_model.specs.Step.{if_up, log_opens, runs, starts}
use Rattle.world_laws.specs.Beside.{Beside, acked_by, log_by}
use Rattle.world_laws.specs.Invariant.{LogsHold, StepKeeps, StoreStepHolds}
use Rattle.world_laws.specs.Kept.{end_of, hard, log_kept}
use Rattle.world_laws.specs.LogStores.{DiskFacts, LogStoreFacts, RunsBy, RunsFrom, StoresHold}
use Rattle.world_laws.specs.Messages.{AllSay, Says, SealFrom, ViewGoes, view}
use Rattle.world_laws.proofs.StoreLemmas.{At, each_at, get_here, gone_here, gone_other, set_other}
use Rattle.world_laws.proofs.StoreMessages.{SentLaws, all_both, all_stay, both, disks_go, each, lives_stay, one_disk, one_says}

abbrev with_stores : World → FinMap nat_cmp LogStoreState → FinMap nat_cmp (Disk Message) → List Message → World
with_stores w stores disks messages = record w { log = stores; log_disk = disks; sent = w.sent ++ messages }

-- Log stores and their disks change, and some messages are sent.
holds_with : SentLaws → (w : World) (b : Beside) (stores : FinMap nat_cmp LogStoreState) (disks : FinMap nat_cmp (Disk Message)) (messages : List Message)
    → ((n : ℕ) → Goes (log_kept w n) (log_kept (with_stores w stores disks messages) n))
    → StoresHold (with_stores w stores disks messages) b
    → AllSay (view (with_stores w stores disks messages) b) messages
    → LogsHold w b → StepKeeps w b (with_stores w stores disks messages) b
holds_with law w b stores disks messages goes hold says h =
    let t = with_stores w stores disks messages in
    let on : ViewGoes (view w b) (view t b) = disks_go law w b t refl refl goes in
    record { holds = record { stores = hold; lives = lives_stay w b stores disks t.sent goes h.lives; sent = both (Says (view t b)) w.sent messages (all_stay law (view w b) (view t b) on w.sent h.sent) says }; goes = on }

-- Nothing changes.
still : SentLaws → (w : World) (b : Beside) → LogsHold w b → StepKeeps w b (with_stores w w.log w.log_disk []) b
still law w b h = holds_with law w b w.log w.log_disk [] (λ n. law.of_store.still (log_kept w n)) h.stores tt h

-- ---- a disk with the same records

same_goes : SentLaws → (w : World) (number : ℕ) (d : Disk Message) → d.records ≡ (log_disk_of w number).records
    → (n : ℕ) → Goes (log_kept w n) (reopened (start n) (or_blank (fin.get (fin.insert w.log_disk number d) n)).records)
same_goes law w number d same =
    one_disk law.of_store w.log_disk number d
    (subst (λ (ms : List Message). Goes (log_kept w number) (reopened (start number) ms)) (sym same) (law.of_store.still (log_kept w number)))

disk_set : SentLaws → (w : World) (b : Beside) (number : ℕ) (d : Disk Message) → d.records ≡ (log_disk_of w number).records → LogsHold w b → StepKeeps w b (with_stores w w.log (fin.insert w.log_disk number d) []) b
disk_set law w b number d same h =
    holds_with law w b w.log (fin.insert w.log_disk number d) [] (same_goes law w number d same)
    (each_at (log_by b) (hard w b) (acked_by b) (end_of w) number w.log_disk (fin.insert w.log_disk number d) w.log w.log (set_other w.log_disk number d) (λ other apart. refl) h.stores
    (subst (λ o. At (log_by b) (hard w b) (acked_by b) (end_of w) number o (fin.get w.log number)) (sym (get_here w.log_disk number d))
    (subst (λ (ms : List Message). LogStoreFacts (log_by b) (hard w b) (acked_by b number) (end_of w) number (reopened (start number) ms) (fin.get w.log number)) (sym same) (h.stores number)))) tt h

-- ---- a start

made_same : (d : Disk Message) (o : Option Armed) → (made_as d o).disk.records ≡ d.records
made_same d None = refl
made_same d (Some a) = refl

read_same : (d : Disk Message) (o : Option Armed) → (read_as message_size d o).disk.records ≡ d.records
read_same d None = refl
read_same d (Some a) = refl

pub opened_same : (d : Disk Message) → (opened message_size d).disk.records ≡ d.records
opened_same d = by (nat_le d.size 1)
  where
    by : (b : Bool) → (opened_by message_size d b).disk.records ≡ d.records
    by true = made_same d (failing 5 d.armed)
    by false = read_same d (failing (5 + reads d.size) d.armed)

pub opens : SentLaws → (w : World) (b : Beside) (number : ℕ) (k : Worked Message) → k.disk.records ≡ (log_disk_of w number).records → LogsHold w b → StepKeeps w b (log_opens w number k).world b
opens law w b number k same h = by k.done
  where
    by : (c : Bool) → StepKeeps w b (log_opens w number (record { disk = k.disk; done = c })).world b
    by false = disk_set law w b number k.disk same h
    by true =
        let new = reopened (start number) k.disk.records in
        let disk : DiskFacts (log_by b) (hard w b) (acked_by b number) (end_of w) number new =
        subst (λ (ms : List Message). DiskFacts (log_by b) (hard w b) (acked_by b number) (end_of w) number (reopened (start number) ms)) (sym same) (h.stores number).disk in
        let runs : RunsFrom (log_by b) (hard w b) new new =
        record { same = record { number = refl; groups = λ q. refl; seals = λ q. refl }; facts = disk.facts; of = disk.of } in
        holds_with law w b (fin.insert w.log number new) (fin.insert w.log_disk number k.disk) [] (same_goes law w number k.disk same)
        (each_at (log_by b) (hard w b) (acked_by b) (end_of w) number w.log_disk (fin.insert w.log_disk number k.disk) w.log (fin.insert w.log number new) (set_other w.log_disk number k.disk) (set_other w.log number new) h.stores
        (subst (λ o. At (log_by b) (hard w b) (acked_by b) (end_of w) number (fin.get (fin.insert w.log_disk number k.disk) number) o) (sym (get_here w.log number new))
        (subst (λ d. At (log_by b) (hard w b) (acked_by b) (end_of w) number d (Some new)) (sym (get_here w.log_disk number k.disk))
        (record { disk = disk; runs = runs })))) tt h

-- ---- a stop

stops : SentLaws → (w : World) (b : Beside) (number : ℕ) → LogsHold w b → StepKeeps w b (with_stores w (fin.remove w.log number) w.log_disk []) b
stops law w b number h =
    holds_with law w b (fin.remove w.log number) w.log_disk [] (λ n. law.of_store.still (log_kept w n))
    (each_at (log_by b) (hard w b) (acked_by b) (end_of w) number w.log_disk w.log_disk w.log (fin.remove w.log number) (λ other apart. refl) (gone_other w.log number) h.stores
    (subst (λ o. At (log_by b) (hard w b) (acked_by b) (end_of w) number (fin.get w.log_disk number) o) (sym (gone_here w.log number))
    (record { disk = (h.stores number).disk; runs = tt }))) tt h

-- ---- a tick

ticks : SentLaws → ((s : LogStoreState) (most : ℕ → ℕ) → AllByRecursion (store_told.MessageFact (ticked s).0 most) (ticked s).1)
    → (w : World) (b : Beside) (number : ℕ) → LogsHold w b → (o : Option LogStoreState) → fin.get w.log number ≡ o → StepKeeps w b (log_ticks w number o).world b
ticks law told w b number h None is = still law w b h
ticks law told w b number h (Some s) is =
    let here : RunsBy (log_by b) (hard w b) (log_kept w number) (Some s) = subst (RunsBy (log_by b) (hard w b) (log_kept w number)) is (h.stores number).runs in
    let runs : RunsFrom (log_by b) (hard w b) (log_kept w number) s = here in
    let t = with_stores w w.log w.log_disk (ticked s).1 in
    holds_with law w b w.log w.log_disk (ticked s).1 (λ n. law.of_store.still (log_kept w n)) h.stores
    (each (λ (x : Message). store_told.MessageFact s (hard w b) x × SealFrom number x.note) (Says (view t b))
    (λ x f. one_says law (view t b) number s x (sym runs.same.number ∙ (h.stores number).disk.named) (law.of_store.same_goes s (log_kept w number) runs.same) f.0 f.1) (ticked s).1
    (all_both (store_told.MessageFact s (hard w b)) (λ (x : Message). SealFrom number x.note) (ticked s).1 (told s (hard w b)) (tt, tt))) h

-- ---- each of them

up : SentLaws → (w : World) (b : Beside) (number : ℕ) (c : Bool) (e : Effect) → LogsHold w b → StepKeeps w b e.world b → StepKeeps w b (if_up w (LogStore number) c e).world b
up law w b number true e h k = k
up law w b number false e h k = still law w b h

pub store_step_holds : SentLaws → ((s : LogStoreState) (most : ℕ → ℕ) → AllByRecursion (store_told.MessageFact (ticked s).0 most) (ticked s).1) → StoreStepHolds
store_step_holds law told w b number (step.Tick (LogStore n)) of h = ticks law told w b n h (fin.get w.log n) refl
store_step_holds law told w b number (step.Stop (LogStore n) mode) of h = up law w b n (runs w (LogStore n)) _ h (stops law w b n h)
store_step_holds law told w b number (step.Start (LogStore n)) of h = by (runs w (LogStore n))
  where
    by : (c : Bool) → StepKeeps w b (starts w (LogStore n) c).world b
    by true = still law w b h
    by false = opens law w b n (opened message_size (log_disk_of w n)) (opened_same (log_disk_of w n)) h
store_step_holds law told w b number (step.Fail (LogStore n) call mode) of h = up law w b n (runs w (LogStore n)) _ h (disk_set law w b n (arm (log_disk_of w n) call mode) refl h)
store_step_holds law told w b number s of h = absurd of
