-- What can be spelled stays so by each step, and is so at the beginning.
use Rattle.std.proofs.Common.{◌≡◌, ◌+◌, ◌-◌, ℕ, Bool, true, false, cond, nat_lt, List, [], ◌∷◌, ◌++◌, length, slice_get, Option, Some, None, Ok, Err, refl, sym, subst, arith}
use Rattle.std.specs.Ordering.{nat_cmp}
use Rattle.std.specs.FinMap.{FinMap}
use Rattle.std.specs.FinMap as fin
use Rattle.std.specs.declared.result.Result.{Result}
use Rattle.tm_data.specs.declared.image.Image.{Image}
use Rattle.tm_data.specs.declared.transaction.Page.{Page}
use Rattle.tm_data.specs.declared.vector.VectorEntry.{VectorEntry}
use Rattle.tm_data.specs.declared.log.Group.{Group}
use Rattle.tm_base.specs.declared.command.Command.{Command}
use Rattle.tm_base.specs.declared.message.Message.{Message}
use Rattle.tm_base.specs.declared.message.Node.{Node}
use Rattle.tm_base.specs.declared.message.Node.TheVariants.{Master, LogStore, PageStore, LockManager, Replica}
use Rattle.tm_base.specs.declared.step.Outcome.TheVariants as outcome
use Rattle.tm_base.specs.declared.step.Step.TheVariants as step
use Rattle.format_laws.specs.Kept.{KeepsSpelled, LifeIsSpelled, LocksAreSpelled}
use Rattle.format_laws.specs.Spelled.{AllSpelled, CanBeSpelled, IsSpelled, IsStamp}
use Rattle.lock_model.specs.Facts as lock_facts
use Rattle.lock_model.specs.Runs.{after}
use Rattle.lock_model.specs.State as locks
use Rattle.lock_model.specs.Step as lock_step
use Rattle.master_model.specs.Facts.{Brings, Facts, JoinsAfter, logged_by}
use Rattle.master_model.specs.Stages.{StagesAreSaid}
use Rattle.master_model.specs.State as master
use Rattle.master_model.specs.Step as master_step
use Rattle.master_model.specs.Told.{Sent}
use Rattle.replica_model.specs.Order.{uncovered, waits}
use Rattle.replica_model.specs.Reads as replica_reads
use Rattle.replica_model.specs.Reads.{Unpublished, Waits, Full}
use Rattle.replica_model.specs.State as replica
use Rattle.replica_model.specs.Step as replica_step
use Rattle.store_model.specs.declared.refusal.ReadRefusal.{ReadRefusal}
use Rattle.store_model.specs.LogStarts.{is_journalled, reopened}
use Rattle.store_model.specs.LogState.{LogStoreState}
use Rattle.store_model.specs.LogState as log_state
use Rattle.store_model.specs.LogStep as log_step
use Rattle.store_model.specs.PageReads as page_reads
use Rattle.store_model.specs.PageState.{PageStoreState}
use Rattle.store_model.specs.PageState as page_state
use Rattle.store_model.specs.PageStep as page_step
use Rattle.store_model.specs.PageWhole.{with_part}
use Rattle.world_model.specs.Disk.{Armed, Disk, Worked, appended, appended_all, appended_as, arm, failing, is_kept, opened}
use Rattle.world_model.specs.Past.{commanded, lived, managed, with_answer}
use Rattle.world_model.specs.World.{World, Item, Part, Kept, Past, log_disk_of, or_zero, shelf_of, shows, stopped}
use Rattle.world_model.specs.Nodes.{answers_page, delivers_some, delivers_to, item_size, items_by, lock_keeps, lock_takes, lock_ticks, log_ticks, master_ticks, page_ticks, replica_ticks, ticks, log_takes, master_takes, message_size, page_takes, replica_takes}
use Rattle.world_model.specs.Step.{armed, begins, commands_some, gets, if_key, if_up, lags, lock_opens, log_opens, nodes, page_after, page_at, page_opens, published, publishes, reads_page, refusal, rows_of, runs, scans, starts, value_of, version_at, waits_at, wants_after, with_started, without}
use Rattle.world_laws.specs.Beside.{Beside}
use Rattle.world_laws.specs.Invariant.{LogsHold}
use Rattle.world_laws.specs.Kept.{locks_kept}
use Rattle.world_laws.specs.Lives.{RunsAs}
use Rattle.world_laws.specs.Spelled.{BeginSpells, SpelledHolds, StepSpells}
use Rattle.world_laws.proofs.SpelledLemmas.{HasFacts, LogLaw, beside_nodes, both_spelled, either, facts_of, removed, sent_spelled, shown, spelled_brings, with_lock, with_log, with_master, with_page, with_replica, without_log, without_page}
use Rattle.world_laws.proofs.StoreSteps.{opened_same}

-- ---- what the laws say

pub record LockLaws : Type 0 where
  pub start_facts : lock_facts.Facts locks.start
  pub run_facts : (s : locks.State) (inputs : List Message) → lock_facts.Facts s → lock_facts.Facts (after s inputs)
  pub start : LocksAreSpelled locks.start
  pub run : (s : locks.State) (inputs : List Message) → lock_facts.Facts s → LocksAreSpelled s → AllSpelled inputs → LocksAreSpelled (after s inputs)
  pub sends : (s : locks.State) (m : Message) → lock_facts.Facts s → LocksAreSpelled s → IsSpelled m → AllSpelled (lock_step.step s m).2

pub record MasterLaws : Type 0 where
  pub log : LogLaw
  pub facts : (begun : ℕ) (groups : List Group) (s : master.State) (m : Message) → Facts begun groups s → Brings m → JoinsAfter begun s.life m.stamp.0 → Facts begun (groups ++ logged_by s.life (master_step.step s m).0.life) (master_step.step s m).0
  pub facts_commanded : (begun : ℕ) (groups : List Group) (s : master.State) (session : ℕ) (asked : Command) → Facts begun groups s → Facts begun (groups ++ logged_by s.life (master_step.on_command s session asked).0.life) (master_step.on_command s session asked).0
  pub says : (s : master.State) (m : Message) → Sent (master_step.step s m).0 (master_step.step s m).1
  pub says_commanded : (s : master.State) (session : ℕ) (asked : Command) → Sent (master_step.on_command s session asked).0 (master_step.on_command s session asked).2
  pub says_ticked : (s : master.State) → Sent s (master_step.tick s)
  pub stages : (s : master.State) (m : Message) → StagesAreSaid (master_step.step s m).0.life (master_step.step s m).1
  pub stages_commanded : (s : master.State) (session : ℕ) (asked : Command) → StagesAreSaid (master_step.on_command s session asked).0.life (master_step.on_command s session asked).2
  pub stages_ticked : (s : master.State) → StagesAreSaid s.life (master_step.tick s)
  pub keeps : (begun : ℕ) (groups : List Group) (s : master.State) (m : Message) → Facts begun groups s → Brings m → LifeIsSpelled s.life → LifeIsSpelled (master_step.step s m).0.life
  pub keeps_commanded : (begun : ℕ) (groups : List Group) (s : master.State) (session : ℕ) (asked : Command) → Facts begun groups s → LifeIsSpelled s.life → LifeIsSpelled (master_step.on_command s session asked).0.life
  pub sends : (begun : ℕ) (groups : List Group) (s : master.State) (messages : List Message) → Facts begun groups s → LifeIsSpelled s.life → Sent s messages → StagesAreSaid s.life messages → AllSpelled messages

pub record StoreLaws : Type 0 where
  pub of_log_step : (s : LogStoreState) (m : Message) → IsStamp s.scalar → IsSpelled m → KeepsSpelled (log_step.stepped s m).0.scalar (log_step.stepped s m).1
  pub of_log_tick : (s : LogStoreState) → IsStamp s.scalar → KeepsSpelled (log_step.ticked s).0.scalar (log_step.ticked s).1
  pub of_log_start : (s : LogStoreState) (kept : List Message) → IsStamp s.scalar → IsStamp (reopened s kept).scalar
  pub of_page_step : (s : PageStoreState) (m : Message) → IsStamp s.scalar → IsSpelled m → KeepsSpelled (page_step.stepped s m).0.scalar (page_step.stepped s m).1
  pub of_page_tick : (s : PageStoreState) → IsStamp s.scalar → KeepsSpelled (page_step.ticked s).0.scalar (page_step.ticked s).1
  pub of_page_refused : (s : PageStoreState) (why : ReadRefusal) (stamp : ℕ) → IsStamp stamp → AllSpelled (page_reads.wants s why stamp)
  pub of_replica_step : (s : replica.State) (m : Message) → IsStamp s.scalar → IsSpelled m → KeepsSpelled (replica_step.step s m).0.scalar (replica_step.step s m).1
  pub of_replica_tick : (s : replica.State) → IsStamp s.scalar → KeepsSpelled (replica_step.ticked s).0.scalar (replica_step.ticked s).1

pub record SpelledLaws : Type 0 where
  pub of_locks : LockLaws
  pub of_masters : MasterLaws
  pub of_stores : StoreLaws

abbrev pub LogStarts : Type 0
LogStarts = (s : LogStoreState) (kept : List Message) → IsStamp s.scalar → IsStamp (reopened s kept).scalar

-- ---- masters

master_delivered : MasterLaws → (w : World) (b : Beside) (number : ℕ) (m : Message) (o : Option master.State) → fin.get w.master number ≡ o → LogsHold w b → SpelledHolds w → Brings m
    → SpelledHolds (master_takes w number m o).world
master_delivered law w b number m None is h k brings = shown w (outcome.Lost (Master number)) [] k tt
master_delivered law w b number m (Some s) is h k brings =
    let f : HasFacts s = facts_of w b number s h is in
    let new = (master_step.step s m).0 in
    let messages = (master_step.step s m).1 in
    let still : LifeIsSpelled new.life = law.keeps f.begun f.groups s m f.facts brings (k.masters number s is) in
    let past : Past = lived w.past s.life new.life in
    shown (record w { master = fin.insert w.master number new; past = past }) outcome.Fine messages (with_master w number new past k still)
    (law.sends f.begun (f.groups ++ logged_by s.life new.life) new messages (law.facts f.begun f.groups s m f.facts brings (f.after m.stamp.0)) still (law.says s m) (law.stages s m))

commanded_spelled : MasterLaws → (w : World) (b : Beside) (number session : ℕ) (asked : Command) (o : Option master.State) → fin.get w.master number ≡ o → LogsHold w b → SpelledHolds w
    → SpelledHolds (commands_some w number session asked o).world
commanded_spelled law w b number session asked None is h k = shown w (outcome.Down (Master number)) [] k tt
commanded_spelled law w b number session asked (Some s) is h k =
    let f : HasFacts s = facts_of w b number s h is in
    let new = (master_step.on_command s session asked).0 in
    let said = (master_step.on_command s session asked).1 in
    let messages = (master_step.on_command s session asked).2 in
    let still : LifeIsSpelled new.life = law.keeps_commanded f.begun f.groups s session asked f.facts (k.masters number s is) in
    let past : Past = commanded w.past s.life new.life session asked said in
    shown (record w { master = fin.insert w.master number new; past = past }) (outcome.Reply number session said) messages (with_master w number new past k still)
    (law.sends f.begun (f.groups ++ logged_by s.life new.life) new messages (law.facts_commanded f.begun f.groups s session asked f.facts) still (law.says_commanded s session asked) (law.stages_commanded s session asked))

-- ---- the lock manager

-- The messages of a disk after an append: one more, or none.
appended_spelled : (d : Disk Message) (m : Message) → AllSpelled d.records → IsSpelled m → AllSpelled (appended message_size d m).disk.records
appended_spelled d m h k = by (failing 4 d.armed)
  where
    more : AllSpelled (d.records ++ m ∷ [])
    more = both_spelled d.records (m ∷ []) h (k, tt)

    or_not : (b : Bool) → AllSpelled (cond b (d.records ++ m ∷ []) d.records)
    or_not true = more
    or_not false = h

    by : (o : Option Armed) → AllSpelled (appended_as d m (message_size m) o).disk.records
    by None = more
    by (Some a) = or_not (is_kept a)

lock_delivered : LockLaws → (w : World) (b : Beside) (m : Message) (o : Option locks.State) → w.lock ≡ o → LogsHold w b → SpelledHolds w → IsSpelled m → SpelledHolds (lock_takes w m o).world
lock_delivered law w b m None is h k spelled = shown w (outcome.Lost LockManager) [] k tt
lock_delivered law w b m (Some s) is h k spelled = by (lock_step.step s m).1
  where
    one : s ≡ locks_kept w
    one = subst (RunsAs (locks_kept w)) is h.lives.lock

    facts : lock_facts.Facts s
    facts = subst lock_facts.Facts (sym one) (law.run_facts locks.start w.lock_disk.records law.start_facts)

    kept : LocksAreSpelled s
    kept = subst LocksAreSpelled (sym one) (law.run locks.start w.lock_disk.records law.start_facts law.start k.journal)

    new : locks.State
    new = (lock_step.step s m).0

    messages : List Message
    messages = (lock_step.step s m).2

    on_disk : (d : Worked Message) → AllSpelled d.disk.records → SpelledHolds (lock_keeps w m s new messages d).world
    on_disk d j =
        let p : Past = cond (nat_lt (length w.lock_disk.records) (length d.disk.records)) (managed w.past s new m) w.past in
        either d.done _ _
        (shown (record w { lock = Some new; lock_disk = d.disk; past = managed w.past s new m }) outcome.Fine messages (with_lock w (Some new) d.disk (managed w.past s new m) k j) (law.sends s m facts kept spelled))
        (shown (record w { lock = None; lock_disk = d.disk; past = p }) (outcome.Stopped LockManager) [] (with_lock w None d.disk p k j) tt)

    by : (changed : Bool) → SpelledHolds (lock_keeps w m s new messages (cond changed (appended message_size w.lock_disk m) (record { disk = w.lock_disk; done = true }))).world
    by true = on_disk (appended message_size w.lock_disk m) (appended_spelled w.lock_disk m k.journal spelled)
    by false = on_disk (record { disk = w.lock_disk; done = true }) k.journal

lock_opened : (w : World) → SpelledHolds w → SpelledHolds (lock_opens w (opened message_size w.lock_disk)).world
lock_opened w k =
    let d = opened message_size w.lock_disk in
    let j : AllSpelled d.disk.records = subst AllSpelled (sym (opened_same w.lock_disk)) k.journal in
    let new : locks.State = after locks.start d.disk.records in
    either d.done _ _
    (shown (record w { lock_disk = d.disk; lock = Some new }) outcome.Fine [] (with_lock w (Some new) d.disk w.past k j) tt)
    (shown (record w { lock_disk = d.disk }) (outcome.Stopped LockManager) [] (with_lock w w.lock d.disk w.past k j) tt)

-- ---- log stores

log_delivered : StoreLaws → (w : World) (number : ℕ) (m : Message) (o : Option LogStoreState) → fin.get w.log number ≡ o → SpelledHolds w → IsSpelled m → SpelledHolds (log_takes w number m o).world
log_delivered law w number m None is k spelled = shown w (outcome.Lost (LogStore number)) [] k tt
log_delivered law w number m (Some s) is k spelled =
    let new = (log_step.stepped s m).0 in
    let messages = (log_step.stepped s m).1 in
    let kept : Worked Message = cond (is_journalled s new m.note) (appended message_size (log_disk_of w number) m) (record { disk = log_disk_of w number; done = true }) in
    let disks : FinMap nat_cmp (Disk Message) = fin.insert w.log_disk number kept.disk in
    let f = law.of_log_step s m (k.logs number s is) spelled in
    either kept.done _ _
    (shown (record w { log_disk = disks; log = fin.insert w.log number new }) outcome.Fine messages (with_log w number new disks k f.scalar_is) f.sent_are)
    (shown (record w { log_disk = disks; log = fin.remove w.log number }) (outcome.Stopped (LogStore number)) [] (without_log w number disks k) tt)

log_ticked : StoreLaws → (w : World) (number : ℕ) (o : Option LogStoreState) → fin.get w.log number ≡ o → SpelledHolds w → SpelledHolds (log_ticks w number o).world
log_ticked law w number None is k = shown w (outcome.Down (LogStore number)) [] k tt
log_ticked law w number (Some s) is k = shown w outcome.Fine (log_step.ticked s).1 k (law.of_log_tick s (k.logs number s is)).sent_are

with_disks : (w : World) (disks : FinMap nat_cmp (Disk Message)) → SpelledHolds w → SpelledHolds (record w { log_disk = disks })
with_disks w disks h = record { sent = h.sent; journal = h.journal; masters = h.masters; logs = h.logs; pages = h.pages; replicas = h.replicas }

with_shelves : (w : World) (shelves : FinMap nat_cmp (Disk Item)) → SpelledHolds w → SpelledHolds (record w { shelf = shelves })
with_shelves w shelves h = record { sent = h.sent; journal = h.journal; masters = h.masters; logs = h.logs; pages = h.pages; replicas = h.replicas }

log_opened : LogStarts → (w : World) (number : ℕ) (d : Worked Message) → SpelledHolds w → SpelledHolds (log_opens w number d).world
log_opened law w number d k =
    let disks : FinMap nat_cmp (Disk Message) = fin.insert w.log_disk number d.disk in
    let new : LogStoreState = reopened (log_state.start number) d.disk.records in
    either d.done _ _
    (shown (record w { log_disk = disks; log = fin.insert w.log number new }) outcome.Fine [] (with_log w number new disks k (law (log_state.start number) d.disk.records (omega arith))) tt)
    (shown (record w { log_disk = disks }) (outcome.Stopped (LogStore number)) [] (with_disks w disks k) tt)

-- ---- page stores

page_delivered : StoreLaws → (w : World) (number : ℕ) (m : Message) (o : Option PageStoreState) → fin.get w.page number ≡ o → SpelledHolds w → IsSpelled m → SpelledHolds (page_takes w number m o).world
page_delivered law w number m None is k spelled = shown w (outcome.Lost (PageStore number)) [] k tt
page_delivered law w number m (Some s) is k spelled =
    let new = (page_step.stepped s m).0 in
    let messages = (page_step.stepped s m).1 in
    let kept = appended_all item_size (items_by s m.note) (shelf_of w number) in
    let shelves : FinMap nat_cmp (Disk Item) = fin.insert w.shelf number kept.disk in
    let past : Past = answers_page w.past m.stamp.0 messages in
    let f = law.of_page_step s m (k.pages number s is) spelled in
    either kept.done _ _
    (shown (record w { shelf = shelves; page = fin.insert w.page number new; past = past }) outcome.Fine messages (with_page w number new shelves past k f.scalar_is) f.sent_are)
    (shown (record w { shelf = shelves; page = fin.remove w.page number }) (outcome.Stopped (PageStore number)) [] (without_page w number shelves k) tt)

page_ticked : StoreLaws → (w : World) (number : ℕ) (o : Option PageStoreState) → fin.get w.page number ≡ o → SpelledHolds w → SpelledHolds (page_ticks w number o).world
page_ticked law w number None is k = shown w (outcome.Down (PageStore number)) [] k tt
page_ticked law w number (Some s) is k =
    let new = (page_step.ticked s).0 in
    let f = law.of_page_tick s (k.pages number s is) in
    shown (record w { page = fin.insert w.page number new }) outcome.Fine (page_step.ticked s).1 (with_page w number new w.shelf w.past k f.scalar_is) f.sent_are

page_restarted : (s : PageStoreState) (items : List Item) → IsStamp s.scalar → IsStamp (page_after s items).scalar
page_restarted s [] fits = fits
page_restarted s (Part g ∷ items) fits = page_restarted (with_part s g) items fits
page_restarted s (Kept image ∷ items) fits = page_restarted s items fits

page_opened : (w : World) (number : ℕ) (d : Worked Item) → SpelledHolds w → SpelledHolds (page_opens w number d).world
page_opened w number d k =
    let shelves : FinMap nat_cmp (Disk Item) = fin.insert w.shelf number d.disk in
    let new : PageStoreState = page_after (page_state.start number w.page_stores) d.disk.records in
    either d.done _ _
    (shown (record w { shelf = shelves; page = fin.insert w.page number new }) outcome.Fine []
    (with_page w number new shelves w.past k (page_restarted (page_state.start number w.page_stores) d.disk.records (omega arith))) tt)
    (shown (record w { shelf = shelves }) (outcome.Stopped (PageStore number)) [] (with_shelves w shelves k) tt)

with_past : (w : World) (p : Past) → SpelledHolds w → SpelledHolds (record w { past = p })
with_past w p h = beside_nodes w w.boots w.lives p h

page_read : (w : World) (number stamp : ℕ) (messages : List Message) (r : Result Image ReadRefusal) → SpelledHolds w → AllSpelled messages → SpelledHolds (reads_page w number stamp messages r).world
page_read w number stamp messages (Ok image) k spelled = shown (record w { past = with_answer w.past stamp image }) (outcome.Page number image) [] (with_past w (with_answer w.past stamp image) k) tt
page_read w number stamp messages (Err why) k spelled = shown w (refusal number why) messages k spelled

page_wanted : StoreLaws → (s : PageStoreState) (stamp : ℕ) (r : Result Image ReadRefusal) → IsStamp stamp → AllSpelled (wants_after s stamp r)
page_wanted law s stamp (Ok image) fits = tt
page_wanted law s stamp (Err why) fits = law.of_page_refused s why stamp fits

page_asked : StoreLaws → (w : World) (number : ℕ) (page : Page) (stamp : ℕ) (o : Option PageStoreState) → IsStamp stamp → SpelledHolds w → SpelledHolds (page_at w number page stamp o).world
page_asked law w number page stamp None fits k = shown w (outcome.Down (PageStore number)) [] k tt
page_asked law w number page stamp (Some s) fits k =
    let found = page_reads.read_at s page stamp in
    page_read w number stamp (wants_after s stamp found) found k (page_wanted law s stamp found fits)

version_asked : (w : World) (number : ℕ) (page : Page) (stamp : ℕ) (o : Option PageStoreState) → SpelledHolds w → SpelledHolds (version_at w number page stamp o).world
version_asked w number page stamp None k = shown w (outcome.Down (PageStore number)) [] k tt
version_asked w number page stamp (Some s) k = page_read w number stamp [] (page_reads.read_version s page stamp) k tt

-- ---- replicas

replica_delivered : StoreLaws → (w : World) (number : ℕ) (m : Message) (o : Option replica.State) → fin.get w.replica number ≡ o → SpelledHolds w → IsSpelled m → SpelledHolds (replica_takes w number m o).world
replica_delivered law w number m None is k spelled = shown w (outcome.Lost (Replica number)) [] k tt
replica_delivered law w number m (Some s) is k spelled =
    let new = (replica_step.step s m).0 in
    let f = law.of_replica_step s m (k.replicas number s is) spelled in
    shown (record w { replica = fin.insert w.replica number new }) outcome.Fine (replica_step.step s m).1 (with_replica w number new w.past k f.scalar_is) f.sent_are

replica_ticked : StoreLaws → (w : World) (number : ℕ) (o : Option replica.State) → fin.get w.replica number ≡ o → SpelledHolds w → SpelledHolds (replica_ticks w number o).world
replica_ticked law w number None is k = shown w (outcome.Down (Replica number)) [] k tt
replica_ticked law w number (Some s) is k =
    let new = (replica_step.ticked s).0 in
    let f = law.of_replica_tick s (k.replicas number s is) in
    shown (record w { replica = fin.insert w.replica number new }) outcome.Fine (replica_step.ticked s).1 (with_replica w number new w.past k f.scalar_is) f.sent_are

past_published : (s : replica.State) (o : Option VectorEntry) → (replica_reads.publish_past s o).0.scalar ≡ s.scalar
past_published s (Some e) = refl
past_published s None = by (nat_lt (length s.points) 65536)
  where
    by : (b : Bool) → (replica_reads.publishes s b).0.scalar ≡ s.scalar
    by true = refl
    by false = refl

was_published : (w : World) (number : ℕ) (new : replica.State) (r : Result ℕ Unpublished) → IsStamp new.scalar → SpelledHolds w → SpelledHolds (published w number new r).world
was_published w number new (Ok point) fits k = shown _ (outcome.Point number point new.order.frontier) [] (with_replica w number new _ k fits) tt
was_published w number new (Err (Waits e)) fits k = shown w (outcome.Waits number e.writer e.stamp) [] k tt
was_published w number new (Err Full) fits k = shown w (outcome.FullPoints number) [] k tt

point_asked : (w : World) (number : ℕ) (bound : List VectorEntry) (o : Option replica.State) → fin.get w.replica number ≡ o → SpelledHolds w → SpelledHolds (publishes w number bound o).world
point_asked w number bound None is k = shown w (outcome.Down (Replica number)) [] k tt
point_asked w number bound (Some s) is k =
    was_published w number (replica_reads.publish s bound).0 (replica_reads.publish s bound).1 (omega (arith, past_published s (uncovered s.order.frontier bound), k.replicas number s is)) k

lag_asked : (w : World) (number : ℕ) (o : Option replica.State) → SpelledHolds w → SpelledHolds (lags w number o).world
lag_asked w number None k = shown w (outcome.Down (Replica number)) [] k tt
lag_asked w number (Some s) k = shown w (waits_at number (waits s.order)) [] k tt

get_asked : (w : World) (number point table : ℕ) (key : List ℕ) (o : Option replica.State) → SpelledHolds w → SpelledHolds (gets w number point table key o).world
get_asked w number point table key None k = shown w (outcome.Down (Replica number)) [] k tt
get_asked w number point table key (Some s) k = shown w (if_key number (Some key) (value_of number point table (replica_reads.get s point table key))) [] k tt

scan_asked : (w : World) (number point table : ℕ) (from : Option (List ℕ)) (count : ℕ) (o : Option replica.State) → SpelledHolds w → SpelledHolds (scans w number point table from count o).world
scan_asked w number point table from count None k = shown w (outcome.Down (Replica number)) [] k tt
scan_asked w number point table from count (Some s) k = shown w (if_key number from (rows_of number point table (replica_reads.scan s point table from count))) [] k tt

-- ---- starts and stops

begins_spelled : LogStarts → (w : World) (node : Node) → SpelledHolds w → SpelledHolds (begins w node).world
begins_spelled law w (Master number) k =
    let boot = or_zero (fin.get w.boots number) + 1 in
    let new = (master_step.start number boot w.page_stores).0 in
    let h = with_master (record w { boots = fin.insert w.boots number boot }) number new w.past (beside_nodes w (fin.insert w.boots number boot) w.lives w.past k) tt in
    shown (record w { boots = fin.insert w.boots number boot; master = fin.insert w.master number new }) outcome.Fine (master_step.start number boot w.page_stores).1 h (record { stamp = omega arith; note = tt }, tt)
begins_spelled law w LockManager k = lock_opened w k
begins_spelled law w (LogStore number) k = log_opened law w number (opened message_size (log_disk_of w number)) k
begins_spelled law w (PageStore number) k = page_opened w number (opened item_size (shelf_of w number)) k
begins_spelled law w (Replica number) k =
    let lives : FinMap nat_cmp ℕ = fin.insert w.lives number (or_zero (fin.get w.lives number) + 1) in
    let h = with_replica (record w { lives = lives }) number (replica.start number) w.past (beside_nodes w w.boots lives w.past k) (omega arith) in
    shown (record w { lives = lives; replica = fin.insert w.replica number (replica.start number) }) outcome.Fine [] h tt

started : LogStarts → (w : World) (node : Node) (b : Bool) → SpelledHolds w → SpelledHolds (starts w node b).world
started law w node true k = shown w (outcome.Up node) [] k tt
started law w node false k = begins_spelled law w node k

stopped_spelled : (w : World) (node : Node) → SpelledHolds w → SpelledHolds (without w node)
stopped_spelled w (Master number) h = record {
  sent = h.sent;
  journal = h.journal;
  masters = removed (λ (s : master.State). LifeIsSpelled s.life) w.master number h.masters;
  logs = h.logs;
  pages = h.pages;
  replicas = h.replicas;
}
stopped_spelled w LockManager h = with_lock w None w.lock_disk w.past h h.journal
stopped_spelled w (LogStore number) h = without_log w number w.log_disk h
stopped_spelled w (PageStore number) h = without_page w number w.shelf h
stopped_spelled w (Replica number) h = record {
  sent = h.sent;
  journal = h.journal;
  masters = h.masters;
  logs = h.logs;
  pages = h.pages;
  replicas = removed (λ (s : replica.State). IsStamp s.scalar) w.replica number h.replicas;
}

armed_spelled : (w : World) (node : Node) (call mode : ℕ) → SpelledHolds w → SpelledHolds (armed w node call mode)
armed_spelled w (Master number) call mode h = h
armed_spelled w LockManager call mode h = with_lock w w.lock (arm w.lock_disk call mode) w.past h h.journal
armed_spelled w (LogStore number) call mode h = with_disks w _ h
armed_spelled w (PageStore number) call mode h = with_shelves w _ h
armed_spelled w (Replica number) call mode h = h

if_up_spelled : (w : World) (node : Node) (b : Bool) (t : World) → SpelledHolds w → SpelledHolds t → SpelledHolds (if_up w node b (shows t outcome.Fine [])).world
if_up_spelled w node true t k h = shown t outcome.Fine [] h tt
if_up_spelled w node false t k h = shown w (outcome.Down node) [] k tt

-- ---- every step

delivered_to : SpelledLaws → (w : World) (b : Beside) (m : Message) → LogsHold w b → SpelledHolds w → CanBeSpelled m → (to : Node) → SpelledHolds (delivers_to w m to).world
delivered_to law w b m h k can (Master number) = master_delivered law.of_masters w b number m (fin.get w.master number) refl h k (spelled_brings m can)
delivered_to law w b m h k can LockManager = lock_delivered law.of_locks w b m w.lock refl h k can.besides
delivered_to law w b m h k can (LogStore number) = log_delivered law.of_stores w number m (fin.get w.log number) refl k can.besides
delivered_to law w b m h k can (PageStore number) = page_delivered law.of_stores w number m (fin.get w.page number) refl k can.besides
delivered_to law w b m h k can (Replica number) = replica_delivered law.of_stores w number m (fin.get w.replica number) refl k can.besides

delivered : SpelledLaws → (w : World) (b : Beside) (number : ℕ) (o : Option Message) → slice_get w.sent (number - 1) ≡ o → LogsHold w b → SpelledHolds w → SpelledHolds (delivers_some w o).world
delivered law w b number None is h k = shown w outcome.Fine [] k tt
delivered law w b number (Some m) is h k = delivered_to law w b m h k (sent_spelled law.of_masters.log w b h k (number - 1) m is) m.to

master_ticked : MasterLaws → (w : World) (b : Beside) (number : ℕ) (o : Option master.State) → fin.get w.master number ≡ o → LogsHold w b → SpelledHolds w → SpelledHolds (master_ticks w number o).world
master_ticked law w b number None is h k = shown w (outcome.Down (Master number)) [] k tt
master_ticked law w b number (Some s) is h k =
    let f : HasFacts s = facts_of w b number s h is in
    shown w outcome.Fine (master_step.tick s) k (law.sends f.begun f.groups s (master_step.tick s) f.facts (k.masters number s is) (law.says_ticked s) (law.stages_ticked s))

lock_ticked : (w : World) (o : Option locks.State) → SpelledHolds w → SpelledHolds (lock_ticks w o).world
lock_ticked w None k = shown w (outcome.Down LockManager) [] k tt
lock_ticked w (Some s) k = shown w outcome.Fine [] k tt

ticked : SpelledLaws → (w : World) (b : Beside) (node : Node) → LogsHold w b → SpelledHolds w → SpelledHolds (ticks w node).world
ticked law w b (Master number) h k = master_ticked law.of_masters w b number (fin.get w.master number) refl h k
ticked law w b LockManager h k = lock_ticked w w.lock k
ticked law w b (LogStore number) h k = log_ticked law.of_stores w number (fin.get w.log number) refl k
ticked law w b (PageStore number) h k = page_ticked law.of_stores w number (fin.get w.page number) refl k
ticked law w b (Replica number) h k = replica_ticked law.of_stores w number (fin.get w.replica number) refl k

pub step_spells : SpelledLaws → StepSpells
step_spells law w b (step.Do number session asked) is h k = commanded_spelled law.of_masters w b number session asked (fin.get w.master number) refl h k
step_spells law w b (step.Deliver number) is h k = delivered law w b number (slice_get w.sent (number - 1)) refl h k
step_spells law w b (step.Lose number) is h k = shown w outcome.Fine [] k tt
step_spells law w b (step.Tick node) is h k = ticked law w b node h k
step_spells law w b (step.Stop node mode) is h k = if_up_spelled w node (runs w node) (without w node) k (stopped_spelled w node k)
step_spells law w b (step.Start node) is h k = started law.of_stores.of_log_start w node (runs w node) k
step_spells law w b (step.Fail node call mode) is h k = if_up_spelled w node (runs w node) (armed w node call mode) k (armed_spelled w node call mode k)
step_spells law w b (step.Page number page stamp) is h k = page_asked law.of_stores w number page stamp.0 (fin.get w.page number) is k
step_spells law w b (step.Version number page stamp) is h k = version_asked w number page stamp.0 (fin.get w.page number) k
step_spells law w b (step.Publish number bound) is h k = point_asked w number bound (fin.get w.replica number) refl k
step_spells law w b (step.Lag number) is h k = lag_asked w number (fin.get w.replica number) k
step_spells law w b (step.Get number point table key) is h k = get_asked w number point table key (fin.get w.replica number) k
step_spells law w b (step.Scan number point table from count) is h k = scan_asked w number point table from count (fin.get w.replica number) k

-- ---- the beginning

abbrev no_map : {X : Type 0} → FinMap nat_cmp X
no_map = fin.empty

none_there : {X : Type 0} (n : ℕ) → fin.get {X = X} no_map n ≡ None
none_there n = fin.get-empty nat_cmp n

nothing_there : {X : Type 0} (P : X → Type 0) (n : ℕ) (s : X) → fin.get {X = X} no_map n ≡ Some s → P s
nothing_there P n s is = absurd (cc (is, none_there n))

stopped_world : (masters page_stores replicas : ℕ) → SpelledHolds (stopped masters page_stores replicas)
stopped_world masters page_stores replicas = record {
  sent = tt;
  journal = tt;
  masters = nothing_there (λ (s : master.State). LifeIsSpelled s.life);
  logs = nothing_there (λ (s : LogStoreState). IsStamp s.scalar);
  pages = nothing_there (λ (s : PageStoreState). IsStamp s.scalar);
  replicas = nothing_there (λ (s : replica.State). IsStamp s.scalar);
}

all_started : LogStarts → (w : World) (ns : List Node) → SpelledHolds w → SpelledHolds (with_started w ns)
all_started law w [] k = k
all_started law w (n ∷ ns) k = all_started law (begins w n).world ns (begins_spelled law w n k)

pub begin_spells : LogStarts → BeginSpells
begin_spells law masters page_stores replicas = all_started law (stopped masters page_stores replicas) (nodes masters page_stores replicas) (stopped_world masters page_stores replicas)
