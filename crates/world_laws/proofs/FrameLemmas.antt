-- What a delivery leaves as it was.
use Rattle.std.proofs.Common.{ℕ, Bool, true, false, cond, nat_lt, List, [], ◌++◌, length, Option, Some, None, refl, arith}
use Rattle.std.proofs.lemmas.Bool.Decides.{nat_tests}
use Rattle.std.specs.Ordering.{nat_cmp}
use Rattle.std.specs.FinMap.{FinMap, gets}
use Rattle.std.specs.FinMap as fin
use Rattle.tm_base.specs.declared.message.Message.{Message}
use Rattle.tm_base.specs.declared.message.Node.{Node}
use Rattle.tm_base.specs.declared.message.Node.TheVariants.{Master, LogStore, PageStore, LockManager, Replica}
use Rattle.tm_base.specs.declared.step.Outcome.{Outcome}
use Rattle.tm_base.specs.declared.step.Outcome.TheVariants as outcome
use Rattle.lock_model.specs.State as locks
use Rattle.lock_model.specs.Step as lock_step
use Rattle.master_model.specs.State as master
use Rattle.master_model.specs.Step as master_step
use Rattle.replica_model.specs.State as replica
use Rattle.replica_model.specs.Step as replica_step
use Rattle.store_model.specs.LogState.{LogStoreState}
use Rattle.store_model.specs.LogStarts.{is_journalled}
use Rattle.store_model.specs.LogStep as log_step
use Rattle.store_model.specs.PageState.{PageStoreState}
use Rattle.store_model.specs.PageStep as page_step
use Rattle.world_model.specs.Disk.{Worked, appended, appended_all}
use Rattle.world_model.specs.Past.{managed}
use Rattle.world_model.specs.World.{World, Effect, Item, Past, log_disk_of, shelf_of, shows}
use Rattle.world_model.specs.Nodes.{answers_page, item_size, items_by, lock_takes, log_takes, master_takes, message_size, page_takes, replica_takes}
use Rattle.world_laws.specs.Frame.{DeliveryHasFrame, LockSame, LogsSame, MastersSame, PagesSame, PastSame, ReplicasSame, SameBut, SameButOne, SameCounts}

-- ---- maps

other_inserted : {X : Type 0} (m : FinMap nat_cmp X) (number : ℕ) (x : X) → SameButOne number m (fin.insert m number x)
other_inserted m number x other apart = grind (arith, nat_tests, gets)

other_removed : {X : Type 0} (m : FinMap nat_cmp X) (number : ℕ) → SameButOne number m (fin.remove m number)
other_removed m number other apart = grind (arith, nat_tests, gets)

same_counts : (w : World) → SameCounts w w
same_counts w = record { masters = refl; page_stores = refl; replicas = refl; boots = refl; lives = refl }

-- ---- a node that doesn't run

masters_still : (node : Node) (w : World) (sent : List Message) → MastersSame node w (record w { sent = sent })
masters_still (Master number) w sent = λ other apart. refl
masters_still node w sent = refl

lock_still : (node : Node) (w : World) (sent : List Message) → LockSame node w (record w { sent = sent })
lock_still LockManager w sent = tt
lock_still node w sent = (refl, refl)

logs_still : (node : Node) (w : World) (sent : List Message) → LogsSame node w (record w { sent = sent })
logs_still (LogStore number) w sent = (λ other apart. refl, λ other apart. refl)
logs_still node w sent = (refl, refl)

pages_still : (node : Node) (w : World) (sent : List Message) → PagesSame node w (record w { sent = sent })
pages_still (PageStore number) w sent = (λ other apart. refl, λ other apart. refl)
pages_still node w sent = (refl, refl)

replicas_still : (node : Node) (w : World) (sent : List Message) → ReplicasSame node w (record w { sent = sent })
replicas_still (Replica number) w sent = λ other apart. refl
replicas_still node w sent = refl

past_still : (node : Node) (w : World) (sent : List Message) → PastSame node w (record w { sent = sent })
past_still (LogStore number) w sent = refl
past_still (Replica number) w sent = refl
past_still node w sent = tt

-- What only sends changes nothing else.
lost : (node : Node) (w : World) (said : Outcome) (messages : List Message) → SameBut node w (shows w said messages).world
lost node w said messages = record {
  counts = record { masters = refl; page_stores = refl; replicas = refl; boots = refl; lives = refl };
  sent = (messages, refl);
  masters = masters_still node w (w.sent ++ messages);
  lock = lock_still node w (w.sent ++ messages);
  logs = logs_still node w (w.sent ++ messages);
  pages = pages_still node w (w.sent ++ messages);
  replicas = replicas_still node w (w.sent ++ messages);
  past = past_still node w (w.sent ++ messages);
}

-- ---- each kind of node

master_frame : (w : World) (number : ℕ) (m : Message) (o : Option master.State) → SameBut (Master number) w (master_takes w number m o).world
master_frame w number m None = lost (Master number) w (outcome.Lost (Master number)) []
master_frame w number m (Some s) = record {
  counts = record { masters = refl; page_stores = refl; replicas = refl; boots = refl; lives = refl };
  sent = ((master_step.step s m).1, refl);
  masters = other_inserted w.master number (master_step.step s m).0;
  lock = (refl, refl);
  logs = (refl, refl);
  pages = (refl, refl);
  replicas = refl;
  past = tt;
}

replica_frame : (w : World) (number : ℕ) (m : Message) (o : Option replica.State) → SameBut (Replica number) w (replica_takes w number m o).world
replica_frame w number m None = lost (Replica number) w (outcome.Lost (Replica number)) []
replica_frame w number m (Some s) = record {
  counts = record { masters = refl; page_stores = refl; replicas = refl; boots = refl; lives = refl };
  sent = ((replica_step.step s m).1, refl);
  masters = refl;
  lock = (refl, refl);
  logs = (refl, refl);
  pages = (refl, refl);
  replicas = other_inserted w.replica number (replica_step.step s m).0;
  past = refl;
}

-- A world with another lock manager, disk of it, and past.
lock_of : (w : World) (said : Outcome) (messages : List Message) (lock : Option locks.State) (disk : Worked Message) (past : Past)
    → SameBut LockManager w (shows (record w { lock = lock; lock_disk = disk.disk; past = past }) said messages).world
lock_of w said messages lock disk past = record {
  counts = record { masters = refl; page_stores = refl; replicas = refl; boots = refl; lives = refl };
  sent = (messages, refl);
  masters = refl;
  lock = tt;
  logs = (refl, refl);
  pages = (refl, refl);
  replicas = refl;
  past = tt;
}

either : (node : Node) (w : World) (b : Bool) (x y : Effect) → SameBut node w x.world → SameBut node w y.world → SameBut node w (cond b x y).world
either node w true x y h k = h
either node w false x y h k = k

lock_frame : (w : World) (m : Message) (o : Option locks.State) → SameBut LockManager w (lock_takes w m o).world
lock_frame w m None = lost LockManager w (outcome.Lost LockManager) []
lock_frame w m (Some s) =
    let new = (lock_step.step s m).0 in
    let messages = (lock_step.step s m).2 in
    let kept : Worked Message = cond (lock_step.step s m).1 (appended message_size w.lock_disk m) (record { disk = w.lock_disk; done = true }) in
    either LockManager w kept.done _ _
    (lock_of w outcome.Fine messages (Some new) kept (managed w.past s new m))
    (lock_of w (outcome.Stopped LockManager) [] None kept (cond (nat_lt (length w.lock_disk.records) (length kept.disk.records)) (managed w.past s new m) w.past))

log_of : (w : World) (number : ℕ) (said : Outcome) (messages : List Message) (log : FinMap nat_cmp LogStoreState) (kept : Worked Message) → SameButOne number w.log log
    → SameBut (LogStore number) w (shows (record w { log_disk = fin.insert w.log_disk number kept.disk; log = log }) said messages).world
log_of w number said messages log kept h = record {
  counts = record { masters = refl; page_stores = refl; replicas = refl; boots = refl; lives = refl };
  sent = (messages, refl);
  masters = refl;
  lock = (refl, refl);
  logs = (h, other_inserted w.log_disk number kept.disk);
  pages = (refl, refl);
  replicas = refl;
  past = refl;
}

log_frame : (w : World) (number : ℕ) (m : Message) (o : Option LogStoreState) → SameBut (LogStore number) w (log_takes w number m o).world
log_frame w number m None = lost (LogStore number) w (outcome.Lost (LogStore number)) []
log_frame w number m (Some s) =
    let new = (log_step.stepped s m).0 in
    let messages = (log_step.stepped s m).1 in
    let kept : Worked Message = cond (is_journalled s new m.note) (appended message_size (log_disk_of w number) m) (record { disk = log_disk_of w number; done = true }) in
    either (LogStore number) w kept.done _ _
    (log_of w number outcome.Fine messages (fin.insert w.log number new) kept (other_inserted w.log number new))
    (log_of w number (outcome.Stopped (LogStore number)) [] (fin.remove w.log number) kept (other_removed w.log number))

page_of : (w : World) (number : ℕ) (said : Outcome) (messages : List Message) (page : FinMap nat_cmp PageStoreState) (kept : Worked Item) (past : Past) → SameButOne number w.page page
    → SameBut (PageStore number) w (shows (record w { shelf = fin.insert w.shelf number kept.disk; page = page; past = past }) said messages).world
page_of w number said messages page kept past h = record {
  counts = record { masters = refl; page_stores = refl; replicas = refl; boots = refl; lives = refl };
  sent = (messages, refl);
  masters = refl;
  lock = (refl, refl);
  logs = (refl, refl);
  pages = (h, other_inserted w.shelf number kept.disk);
  replicas = refl;
  past = tt;
}

page_frame : (w : World) (number : ℕ) (m : Message) (o : Option PageStoreState) → SameBut (PageStore number) w (page_takes w number m o).world
page_frame w number m None = lost (PageStore number) w (outcome.Lost (PageStore number)) []
page_frame w number m (Some s) =
    let new = (page_step.stepped s m).0 in
    let messages = (page_step.stepped s m).1 in
    let kept = appended_all item_size (items_by s m.note) (shelf_of w number) in
    either (PageStore number) w kept.done _ _
    (page_of w number outcome.Fine messages (fin.insert w.page number new) kept (answers_page w.past m.stamp.0 messages) (other_inserted w.page number new))
    (page_of w number (outcome.Stopped (PageStore number)) [] (fin.remove w.page number) kept w.past (other_removed w.page number))

pub delivery_has_frame : DeliveryHasFrame
delivery_has_frame w m (Master number) = master_frame w number m (fin.get w.master number)
delivery_has_frame w m LockManager = lock_frame w m w.lock
delivery_has_frame w m (LogStore number) = log_frame w number m (fin.get w.log number)
delivery_has_frame w m (PageStore number) = page_frame w number m (fin.get w.page number)
delivery_has_frame w m (Replica number) = replica_frame w number m (fin.get w.replica number)
