-- What a message does at the node that it is delivered to, and what a node does on a tick.
use Rattle.std.specs.Prelude.{ℕ, ◌+◌, ◌-◌, ◌%◌, true, cond, ◌&&◌, nat_eq, nat_lt, List, [], ◌∷◌, ◌++◌, length, slice_get, Result, Ok, Err}
use Rattle.std.specs.FinMap as fin
use Rattle.std.specs.declared.option.Option.{Option}
use Rattle.std.specs.declared.option.Option.TheVariants.{None, Some}
use Rattle.tm_data.specs.declared.image.Image.{Image}
use Rattle.tm_data.specs.declared.log.Group.{Group}
use Rattle.tm_data.specs.declared.log.Record.{Record}
use Rattle.tm_data.specs.declared.transaction.Page.{Page}
use Rattle.tm_base.specs.declared.message.Message.{Message}
use Rattle.tm_base.specs.declared.message.Node.{Node}
use Rattle.tm_base.specs.declared.message.Node.TheVariants.{Master, LogStore, PageStore, LockManager, Replica}
use Rattle.tm_base.specs.declared.message.Note.{Note}
use Rattle.tm_base.specs.declared.message.Note.TheVariants as note
use Rattle.tm_base.specs.declared.message.RosterEntry.{RosterEntry}
use Rattle.tm_base.specs.declared.step.Outcome.TheVariants as outcome
use Rattle.page_image.specs.Spelling.{image_bytes}
use Rattle.log_record.specs.Spelling.{group_bytes}
use Rattle.node_messages.specs.Spelling.{message_bytes}
use Rattle.page_model.specs.Effects.{page_of}
use Rattle.page_model.specs.Versions.{Fault, Held, links_of, version}
use Rattle.page_model.specs.declared.link.Link.{Link}
use Rattle.lock_model.specs.State as locks
use Rattle.lock_model.specs.Step as lock_step
use Rattle.master_model.specs.State as master
use Rattle.master_model.specs.Step as master_step
use Rattle.replica_model.specs.State as replica
use Rattle.replica_model.specs.Step as replica_step
use Rattle.store_model.specs.LogState.{LogStoreState}
use Rattle.store_model.specs.LogStarts.{is_journalled}
use Rattle.store_model.specs.LogStep as log_step
use Rattle.store_model.specs.PageState.{PageStoreState}
use Rattle.store_model.specs.PageState as page_state
use Rattle.store_model.specs.PageStep as page_step
use Rattle.store_model.specs.PageWhole.{part_of}
use Rattle.world_model.specs.Disk.{Worked, appended, appended_all}
use Rattle.world_model.specs.Past.{lived, managed, with_answer}
use Rattle.world_model.specs.World.{World, Past, Effect, Item, Part, Kept, log_disk_of, shelf_of, shows}

-- ---- how long records are

abbrev pub message_size : Message → ℕ
message_size m = length (message_bytes m)

abbrev pub item_size : Item → ℕ
item_size (Part g) = 1 + length (group_bytes g)
item_size (Kept i) = 1 + length (image_bytes i)

-- ---- a master

abbrev pub with_master : World → ℕ → master.State → master.State → World
with_master w number old new = record w { master = fin.insert w.master number new; past = lived w.past old.life new.life }

abbrev pub master_takes : World → ℕ → Message → Option master.State → Effect
master_takes w number m None = shows w (outcome.Lost (Master number)) []
master_takes w number m (Some s) =
    let (new, messages) = master_step.step s m in
    shows (with_master w number s new) outcome.Fine messages

-- ---- the lock manager

-- A step whose record can't be kept leaves the node stopped. What it would have sent isn't sent.
abbrev pub lock_keeps : World → Message → locks.State → locks.State → List Message → Worked Message → Effect
lock_keeps w m old new messages kept =
    cond kept.done
    (shows (record w { lock = Some new; lock_disk = kept.disk; past = managed w.past old new m }) outcome.Fine messages)
    (shows (record w {
      lock = None;
      lock_disk = kept.disk;
      past = cond (nat_lt (length w.lock_disk.records) (length kept.disk.records)) (managed w.past old new m) w.past;
    }) (outcome.Stopped LockManager) [])

abbrev pub lock_takes : World → Message → Option locks.State → Effect
lock_takes w m None = shows w (outcome.Lost LockManager) []
lock_takes w m (Some s) =
    let (new, changed, messages) = lock_step.step s m in
    lock_keeps w m s new messages (cond changed (appended message_size w.lock_disk m) (record { disk = w.lock_disk; done = true }))

-- ---- a log store

abbrev pub log_keeps : World → ℕ → LogStoreState → List Message → Worked Message → Effect
log_keeps w number new messages kept =
    let after = record w { log_disk = fin.insert w.log_disk number kept.disk } in
    cond kept.done
    (shows (record after { log = fin.insert w.log number new }) outcome.Fine messages)
    (shows (record after { log = fin.remove w.log number }) (outcome.Stopped (LogStore number)) [])

abbrev pub log_takes : World → ℕ → Message → Option LogStoreState → Effect
log_takes w number m None = shows w (outcome.Lost (LogStore number)) []
log_takes w number m (Some s) =
    let (new, messages) = log_step.stepped s m in
    log_keeps w number new messages
    (cond (is_journalled s new m.note) (appended message_size (log_disk_of w number) m) (record { disk = log_disk_of w number; done = true }))

-- ---- a page store

-- A page's version at its greatest stamp is kept where its records have come to a multiple of 64.
abbrev pub kept_version : Result Image Fault → List Item
kept_version (Err why) = []
kept_version (Ok image) = Kept image ∷ []

abbrev pub newest : List Link → ℕ
newest [] = 0
newest (l ∷ ls) = l.stamp.0

abbrev pub kept_of : Page → List Link → List Link → List Item
kept_of page old new =
    cond (nat_lt (length old) (length new) && nat_eq (length new % 64) 0) (kept_version (version page new (newest new))) []

abbrev pub kept_on : Held → Held → Option Page → List Item
kept_on old new None = []
kept_on old new (Some page) = kept_of page (links_of old page.0) (links_of new page.0)

abbrev pub named : Option ℕ → Option Page
named None = None
named (Some page) = Some (record { 0 = page })

abbrev pub kept_by : Held → Held → List Record → List Item
kept_by old new [] = []
kept_by old new (r ∷ rs) = kept_on old new (named (page_of r)) ++ kept_by old new rs

-- What is shelved of groups, one after another.
abbrev pub shelved : ℕ → ℕ → Held → List Group → List Item
shelved number stores held [] = []
shelved number stores held (g ∷ gs) =
    let new = page_step.with_links held (page_step.brought number stores (g ∷ [])) in
    Part (part_of number stores g) ∷ kept_by held new (part_of number stores g).records ++ shelved number stores new gs

abbrev pub shelved_if : PageStoreState → ℕ → List Group → Option RosterEntry → List Item
shelved_if s writer groups None = []
shelved_if s writer groups (Some e) = shelved s.number s.stores s.pages (page_step.in_turn writer (page_state.next_of s writer) groups)

abbrev pub items_by : PageStoreState → Note → List Item
items_by s (note.Groups writer groups) = shelved_if s writer.0 groups (fin.get s.roster writer.0)
items_by s other = []

-- An image that answers a ReadPage is an answer for the stamp that was asked for.
abbrev pub answer_of : Past → ℕ → Note → Past
answer_of p stamp (note.PageIs image) = with_answer p stamp image
answer_of p stamp other = p

abbrev pub answers_page : Past → ℕ → List Message → Past
answers_page p stamp [] = p
answers_page p stamp (m ∷ ms) = answers_page (answer_of p stamp m.note) stamp ms

abbrev pub page_keeps : World → ℕ → Message → PageStoreState → List Message → Worked Item → Effect
page_keeps w number m new messages kept =
    let after = record w { shelf = fin.insert w.shelf number kept.disk } in
    cond kept.done
    (shows (record after { page = fin.insert w.page number new; past = answers_page w.past m.stamp.0 messages }) outcome.Fine messages)
    (shows (record after { page = fin.remove w.page number }) (outcome.Stopped (PageStore number)) [])

abbrev pub page_takes : World → ℕ → Message → Option PageStoreState → Effect
page_takes w number m None = shows w (outcome.Lost (PageStore number)) []
page_takes w number m (Some s) =
    let (new, messages) = page_step.stepped s m in
    page_keeps w number m new messages (appended_all item_size (items_by s m.note) (shelf_of w number))

-- ---- a replica

abbrev pub replica_takes : World → ℕ → Message → Option replica.State → Effect
replica_takes w number m None = shows w (outcome.Lost (Replica number)) []
replica_takes w number m (Some s) =
    let (new, messages) = replica_step.step s m in
    shows (record w { replica = fin.insert w.replica number new }) outcome.Fine messages

-- ---- a delivery

abbrev pub delivers_to : World → Message → Node → Effect
delivers_to w m (Master number) = master_takes w number m (fin.get w.master number)
delivers_to w m LockManager = lock_takes w m w.lock
delivers_to w m (LogStore number) = log_takes w number m (fin.get w.log number)
delivers_to w m (PageStore number) = page_takes w number m (fin.get w.page number)
delivers_to w m (Replica number) = replica_takes w number m (fin.get w.replica number)

abbrev pub delivers_some : World → Option Message → Effect
delivers_some w None = shows w outcome.Fine []
delivers_some w (Some m) = delivers_to w m m.to

-- Any message that was ever sent, any number of times.
abbrev pub delivers : World → ℕ → Effect
delivers w number = delivers_some w (slice_get w.sent (number - 1))

-- ---- a tick

abbrev pub master_ticks : World → ℕ → Option master.State → Effect
master_ticks w number None = shows w (outcome.Down (Master number)) []
master_ticks w number (Some s) = shows w outcome.Fine (master_step.tick s)

abbrev pub lock_ticks : World → Option locks.State → Effect
lock_ticks w None = shows w (outcome.Down LockManager) []
lock_ticks w (Some s) = shows w outcome.Fine []

abbrev pub log_ticks : World → ℕ → Option LogStoreState → Effect
log_ticks w number None = shows w (outcome.Down (LogStore number)) []
log_ticks w number (Some s) = let (new, messages) = log_step.ticked s in shows w outcome.Fine messages

abbrev pub page_ticks : World → ℕ → Option PageStoreState → Effect
page_ticks w number None = shows w (outcome.Down (PageStore number)) []
page_ticks w number (Some s) =
    let (new, messages) = page_step.ticked s in
    shows (record w { page = fin.insert w.page number new }) outcome.Fine messages

abbrev pub replica_ticks : World → ℕ → Option replica.State → Effect
replica_ticks w number None = shows w (outcome.Down (Replica number)) []
replica_ticks w number (Some s) =
    let (new, messages) = replica_step.ticked s in
    shows (record w { replica = fin.insert w.replica number new }) outcome.Fine messages

abbrev pub ticks : World → Node → Effect
ticks w (Master number) = master_ticks w number (fin.get w.master number)
ticks w LockManager = lock_ticks w w.lock
ticks w (LogStore number) = log_ticks w number (fin.get w.log number)
ticks w (PageStore number) = page_ticks w number (fin.get w.page number)
ticks w (Replica number) = replica_ticks w number (fin.get w.replica number)
