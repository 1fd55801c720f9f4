-- The steps of the world, and what a list of them leads to.
use Rattle.std.specs.Prelude.{ℕ, zero, suc, ◌+◌, Bool, true, false, cond, nat_le, List, [], ◌∷◌, ◌++◌, length, map, Result, Ok, Err}
use Rattle.std.specs.FinMap as fin
use Rattle.std.specs.declared.option.Option.{Option}
use Rattle.std.specs.declared.option.Option.TheVariants.{None, Some}
use Rattle.tm_data.specs.declared.image.Image.{Image}
use Rattle.tm_data.specs.declared.transaction.Page.{Page}
use Rattle.tm_data.specs.declared.vector.VectorEntry.{VectorEntry}
use Rattle.tm_base.specs.declared.command.Command.{Command}
use Rattle.tm_base.specs.declared.message.Message.{Message}
use Rattle.tm_base.specs.declared.message.Node.{Node}
use Rattle.tm_base.specs.declared.message.Node.TheVariants.{Master, LogStore, PageStore, LockManager, Replica}
use Rattle.tm_base.specs.declared.step.Outcome.{Outcome}
use Rattle.tm_base.specs.declared.step.Outcome.TheVariants as outcome
use Rattle.tm_base.specs.declared.step.Pair.{Pair}
use Rattle.tm_base.specs.declared.step.Step.{Step}
use Rattle.tm_base.specs.declared.step.Step.TheVariants as step
use Rattle.lock_model.specs.State as locks
use Rattle.lock_model.specs.Runs.{after}
use Rattle.master_model.specs.State as master
use Rattle.master_model.specs.Step as master_step
use Rattle.replica_model.specs.Order.{waits}
use Rattle.replica_model.specs.Reads.{Refused, NoPoint, NoTable, Unfit, Unpublished, Waits, Full}
use Rattle.replica_model.specs.Reads as replica_reads
use Rattle.replica_model.specs.State as replica
use Rattle.store_model.specs.declared.refusal.ReadRefusal.{ReadRefusal}
use Rattle.store_model.specs.declared.refusal.ReadRefusal.TheVariants as refused
use Rattle.store_model.specs.LogState as log_state
use Rattle.store_model.specs.LogStarts.{reopened}
use Rattle.store_model.specs.PageReads as page_reads
use Rattle.store_model.specs.PageState.{PageStoreState}
use Rattle.store_model.specs.PageState as page_state
use Rattle.store_model.specs.PageWhole.{with_part}
use Rattle.world_model.specs.declared.past.PointMark.{PointMark}
use Rattle.world_model.specs.Disk.{Worked, arm, opened}
use Rattle.world_model.specs.Nodes.{delivers, item_size, message_size, ticks}
use Rattle.world_model.specs.Past.{commanded, with_answer}
use Rattle.world_model.specs.World.{World, Effect, Item, Part, Kept, log_disk_of, or_zero, shelf_of, shows, stopped}

-- ---- a command

abbrev pub commands_some : World → ℕ → ℕ → Command → Option master.State → Effect
commands_some w number session asked None = shows w (outcome.Down (Master number)) []
commands_some w number session asked (Some s) =
    let (new, said, messages) = master_step.on_command s session asked in
    shows (record w { master = fin.insert w.master number new; past = commanded w.past s.life new.life session asked said })
    (outcome.Reply number session said) messages

abbrev pub commands : World → ℕ → ℕ → Command → Effect
commands w number session asked = commands_some w number session asked (fin.get w.master number)

-- ---- a node starts

-- A master's boot number rises by one.
abbrev pub master_starts : World → ℕ → Effect
master_starts w number =
    let boot = or_zero (fin.get w.boots number) + 1 in
    let (new, messages) = master_step.start number boot w.page_stores in
    shows (record w { boots = fin.insert w.boots number boot; master = fin.insert w.master number new }) outcome.Fine messages

-- The lock manager and a log store take the messages of their journals again, in order, and send nothing.
abbrev pub lock_opens : World → Worked Message → Effect
lock_opens w kept =
    cond kept.done
    (shows (record w { lock_disk = kept.disk; lock = Some (after locks.start kept.disk.records) }) outcome.Fine [])
    (shows (record w { lock_disk = kept.disk }) (outcome.Stopped LockManager) [])

-- A log store doesn't hear their stamps.
abbrev pub log_opens : World → ℕ → Worked Message → Effect
log_opens w number kept =
    let after = record w { log_disk = fin.insert w.log_disk number kept.disk } in
    cond kept.done
    (shows (record after { log = fin.insert w.log number (reopened (log_state.start number) kept.disk.records) }) outcome.Fine [])
    (shows after (outcome.Stopped (LogStore number)) [])

-- A page store takes the parts of groups on its shelf, in order: their records, and how far each log was taken.
abbrev pub page_after : PageStoreState → List Item → PageStoreState
page_after s [] = s
page_after s (Part g ∷ items) = page_after (with_part s g) items
page_after s (Kept image ∷ items) = page_after s items

abbrev pub page_opens : World → ℕ → Worked Item → Effect
page_opens w number kept =
    let after = record w { shelf = fin.insert w.shelf number kept.disk } in
    cond kept.done
    (shows (record after { page = fin.insert w.page number (page_after (page_state.start number w.page_stores) kept.disk.records) }) outcome.Fine [])
    (shows after (outcome.Stopped (PageStore number)) [])

-- A replica begins another life.
abbrev pub replica_starts : World → ℕ → Effect
replica_starts w number =
    let life = or_zero (fin.get w.lives number) + 1 in
    shows (record w { lives = fin.insert w.lives number life; replica = fin.insert w.replica number (replica.start number) }) outcome.Fine []

abbrev pub begins : World → Node → Effect
begins w (Master number) = master_starts w number
begins w LockManager = lock_opens w (opened message_size w.lock_disk)
begins w (LogStore number) = log_opens w number (opened message_size (log_disk_of w number))
begins w (PageStore number) = page_opens w number (opened item_size (shelf_of w number))
begins w (Replica number) = replica_starts w number

abbrev pub is_any : {X : Type 0} → Option X → Bool
is_any None = false
is_any (Some x) = true

-- Whether a node runs.
abbrev pub runs : World → Node → Bool
runs w (Master number) = is_any (fin.get w.master number)
runs w LockManager = is_any w.lock
runs w (LogStore number) = is_any (fin.get w.log number)
runs w (PageStore number) = is_any (fin.get w.page number)
runs w (Replica number) = is_any (fin.get w.replica number)

abbrev pub starts : World → Node → Bool → Effect
starts w node true = shows w (outcome.Up node) []
starts w node false = begins w node

-- ---- a node stops, and its disk is to fail

-- A stop forgets the node's memory. Nothing waits for a sync between two steps, so each mode leaves the file as it is.
abbrev pub without : World → Node → World
without w (Master number) = record w { master = fin.remove w.master number }
without w LockManager = record w { lock = None }
without w (LogStore number) = record w { log = fin.remove w.log number }
without w (PageStore number) = record w { page = fin.remove w.page number }
without w (Replica number) = record w { replica = fin.remove w.replica number }

abbrev pub armed : World → Node → ℕ → ℕ → World
armed w (Master number) call mode = w
armed w LockManager call mode = record w { lock_disk = arm w.lock_disk call mode }
armed w (LogStore number) call mode = record w { log_disk = fin.insert w.log_disk number (arm (log_disk_of w number) call mode) }
armed w (PageStore number) call mode = record w { shelf = fin.insert w.shelf number (arm (shelf_of w number) call mode) }
armed w (Replica number) call mode = w

-- What is asked of a node that is stopped isn't done.
abbrev pub if_up : World → Node → Bool → Effect → Effect
if_up w node true effect = effect
if_up w node false effect = shows w (outcome.Down node) []

-- ---- a page is read

-- Want of memory is no answer of a definition; it stands last with the page of another store.
abbrev pub refusal : ℕ → ReadRefusal → Outcome
refusal number (refused.RosterBehind upto) = outcome.RosterBehind number upto
refusal number (refused.Behind writer upto) = outcome.Behind number writer upto
refusal number (refused.Missing stamp) = outcome.Missing number stamp
refusal number (refused.Unfit stamp) = outcome.Unfit (PageStore number) stamp
refusal number other = outcome.NotHere number

abbrev pub reads_page : World → ℕ → ℕ → List Message → Result Image ReadRefusal → Effect
reads_page w number stamp messages (Ok image) = shows (record w { past = with_answer w.past stamp image }) (outcome.Page number image) []
reads_page w number stamp messages (Err why) = shows w (refusal number why) messages

abbrev pub wants_after : PageStoreState → ℕ → Result Image ReadRefusal → List Message
wants_after s stamp (Ok image) = []
wants_after s stamp (Err why) = page_reads.wants s why stamp

abbrev pub page_at : World → ℕ → Page → ℕ → Option PageStoreState → Effect
page_at w number page stamp None = shows w (outcome.Down (PageStore number)) []
page_at w number page stamp (Some s) =
    let found = page_reads.read_at s page stamp in
    reads_page w number stamp (wants_after s stamp found) found

abbrev pub version_at : World → ℕ → Page → ℕ → Option PageStoreState → Effect
version_at w number page stamp None = shows w (outcome.Down (PageStore number)) []
version_at w number page stamp (Some s) = reads_page w number stamp [] (page_reads.read_version s page stamp)

-- ---- a replica is asked

abbrev pub waits_at : ℕ → Option VectorEntry → Outcome
waits_at number None = outcome.Level number
waits_at number (Some e) = outcome.Waits number e.writer e.stamp

abbrev pub published : World → ℕ → replica.State → Result ℕ Unpublished → Effect
published w number new (Ok point) =
    let mark : PointMark = record { replica = number; life = or_zero (fin.get w.lives number); number = point; vector = new.order.frontier } in
    shows (record w { replica = fin.insert w.replica number new; past = record w.past { points = w.past.points ++ mark ∷ [] } })
    (outcome.Point number point new.order.frontier) []
published w number new (Err (Waits e)) = shows w (outcome.Waits number e.writer e.stamp) []
published w number new (Err Full) = shows w (outcome.FullPoints number) []

abbrev pub publishes : World → ℕ → List VectorEntry → Option replica.State → Effect
publishes w number bound None = shows w (outcome.Down (Replica number)) []
publishes w number bound (Some s) = let (new, found) = replica_reads.publish s bound in published w number new found

abbrev pub lags : World → ℕ → Option replica.State → Effect
lags w number None = shows w (outcome.Down (Replica number)) []
lags w number (Some s) = shows w (waits_at number (waits s.order)) []

abbrev pub view_refusal : ℕ → ℕ → ℕ → Refused → Outcome
view_refusal number point table NoPoint = outcome.NoPoint number point
view_refusal number point table NoTable = outcome.NoTable number table
view_refusal number point table (Unfit stamp) = outcome.Unfit (Replica number) (record { 0 = stamp })

abbrev pub value_of : ℕ → ℕ → ℕ → Result (Option (List ℕ)) Refused → Outcome
value_of number point table (Ok value) = outcome.Value number value
value_of number point table (Err why) = view_refusal number point table why

abbrev pub pair_of : (List ℕ × List ℕ) → Pair
pair_of p = record { key = p.0; value = p.1 }

abbrev pub rows_of : ℕ → ℕ → ℕ → Result (List (List ℕ × List ℕ)) Refused → Outcome
rows_of number point table (Ok pairs) = outcome.Rows number (map pair_of pairs)
rows_of number point table (Err why) = view_refusal number point table why

-- A key has at most 64 bytes.
abbrev pub if_short : ℕ → List ℕ → Bool → Outcome → Outcome
if_short number key true found = found
if_short number key false found = outcome.TooLongKey number (length key)

abbrev pub if_key : ℕ → Option (List ℕ) → Outcome → Outcome
if_key number None found = found
if_key number (Some key) found = if_short number key (nat_le (length key) 64) found

abbrev pub gets : World → ℕ → ℕ → ℕ → List ℕ → Option replica.State → Effect
gets w number point table key None = shows w (outcome.Down (Replica number)) []
gets w number point table key (Some s) =
    shows w (if_key number (Some key) (value_of number point table (replica_reads.get s point table key))) []

abbrev pub scans : World → ℕ → ℕ → ℕ → Option (List ℕ) → ℕ → Option replica.State → Effect
scans w number point table from count None = shows w (outcome.Down (Replica number)) []
scans w number point table from count (Some s) =
    shows w (if_key number from (rows_of number point table (replica_reads.scan s point table from count))) []

-- ---- the step

abbrev pub world_step : World → Step → Effect
world_step w (step.Do number session asked) = commands w number session asked
world_step w (step.Deliver number) = delivers w number
world_step w (step.Lose number) = shows w outcome.Fine []
world_step w (step.Tick node) = ticks w node
world_step w (step.Stop node mode) = if_up w node (runs w node) (shows (without w node) outcome.Fine [])
world_step w (step.Start node) = starts w node (runs w node)
world_step w (step.Fail node call mode) = if_up w node (runs w node) (shows (armed w node call mode) outcome.Fine [])
world_step w (step.Page number page stamp) = page_at w number page stamp.0 (fin.get w.page number)
world_step w (step.Version number page stamp) = version_at w number page stamp.0 (fin.get w.page number)
world_step w (step.Publish number bound) = publishes w number bound (fin.get w.replica number)
world_step w (step.Lag number) = lags w number (fin.get w.replica number)
world_step w (step.Get number point table key) = gets w number point table key (fin.get w.replica number)
world_step w (step.Scan number point table from count) = scans w number point table from count (fin.get w.replica number)

-- ---- the beginning

-- All nodes start: the lock manager, the log stores, the masters, the page stores and the replicas, in the order of their
-- numbers.
abbrev pub upto : (ℕ → Node) → ℕ → List Node
upto node zero = []
upto node (suc n) = upto node n ++ node (suc n) ∷ []

abbrev pub nodes : ℕ → ℕ → ℕ → List Node
nodes masters page_stores replicas =
    LockManager ∷ upto LogStore 3 ++ upto Master masters ++ upto PageStore page_stores ++ upto Replica replicas

abbrev pub with_started : World → List Node → World
with_started w [] = w
with_started w (n ∷ ns) = with_started (begins w n).world ns

-- The first step: what it sends is all that the world has sent.
abbrev pub begin : ℕ → ℕ → ℕ → World
begin masters page_stores replicas = with_started (stopped masters page_stores replicas) (nodes masters page_stores replicas)

-- ---- the run of a list

abbrev pub run : World → List Step → World
run w [] = w
run w (s ∷ ss) = run (world_step w s).world ss
