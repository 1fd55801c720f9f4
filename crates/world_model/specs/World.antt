-- The state of the world.
use Rattle.std.specs.Prelude.{ℕ, List, [], ◌++◌}
use Rattle.std.specs.Ordering.{nat_cmp}
use Rattle.std.specs.FinMap.{FinMap}
use Rattle.std.specs.FinMap as fin
use Rattle.std.specs.FinSet.{FinSet}
use Rattle.std.specs.FinSet as sets
use Rattle.tm_data.specs.Orders.{writer_cmp}
use Rattle.std.specs.declared.option.Option.{Option}
use Rattle.std.specs.declared.option.Option.TheVariants.{None, Some}
use Rattle.tm_data.specs.declared.image.Image.{Image}
use Rattle.tm_data.specs.declared.log.Group.{Group}
use Rattle.tm_base.specs.declared.message.Message.{Message}
use Rattle.tm_base.specs.declared.step.Outcome.{Outcome}
use Rattle.key_model.specs.declared.events.Event.{Event}
use Rattle.key_model.specs.declared.step.MachineStep.{MachineStep}
use Rattle.key_model.specs.State as machine
use Rattle.master_model.specs.State as master
use Rattle.lock_model.specs.State as locks
use Rattle.store_model.specs.LogState.{LogStoreState}
use Rattle.store_model.specs.PageState.{PageStoreState}
use Rattle.replica_model.specs.State as replica
use Rattle.world_model.specs.declared.past.PointMark.{PointMark}
use Rattle.world_model.specs.Disk.{Disk, blank}

-- What a page store keeps on its shelf: of a group the records that are on its pages, or an image of a page.
pub data Item : Type 0 where
  Part : Group → Item
  Kept : Image → Item

-- A page that was answered, and for which stamp.
pub record PageAnswer : Type 0 where
  pub stamp : ℕ
  pub image : Image

-- What is kept of the run: the event list, the plain machine beside it and the steps that it took, the greatest durable
-- number of each writer, or, once its log has an end, the length; the writers whose log has one; the pages that were
-- answered, and the points that were published.
pub record Past : Type 0 where
  pub events : List Event
  pub machine : machine.State
  pub steps : List MachineStep
  pub hard : FinMap nat_cmp ℕ
  pub ended : FinSet writer_cmp
  pub answers : List PageAnswer
  pub points : List PointMark

-- The nodes by their numbers; a node that is stopped has no state. A master has had so many boots, a replica so many lives.
pub record World : Type 0 where
  pub masters : ℕ
  pub page_stores : ℕ
  pub replicas : ℕ
  pub boots : FinMap nat_cmp ℕ
  pub lives : FinMap nat_cmp ℕ
  pub master : FinMap nat_cmp master.State
  pub lock : Option locks.State
  pub log : FinMap nat_cmp LogStoreState
  pub page : FinMap nat_cmp PageStoreState
  pub replica : FinMap nat_cmp replica.State
  -- the disks of the lock manager, the log stores and the page stores
  pub lock_disk : Disk Message
  pub log_disk : FinMap nat_cmp (Disk Message)
  pub shelf : FinMap nat_cmp (Disk Item)
  -- every message that was ever sent, the first of number 1
  pub sent : List Message
  pub past : Past

abbrev pub no_past : Past
no_past = record { events = []; machine = machine.empty; steps = []; hard = fin.empty; ended = sets.empty; answers = []; points = [] }

-- A world of so many nodes, all of them stopped, with empty disks.
abbrev pub stopped : ℕ → ℕ → ℕ → World
stopped masters page_stores replicas = record {
  masters = masters;
  page_stores = page_stores;
  replicas = replicas;
  boots = fin.empty;
  lives = fin.empty;
  master = fin.empty;
  lock = None;
  log = fin.empty;
  page = fin.empty;
  replica = fin.empty;
  lock_disk = blank;
  log_disk = fin.empty;
  shelf = fin.empty;
  sent = [];
  past = no_past;
}

-- What comes of a step: the state after, what it shows, and what it sends.
pub record Effect : Type 0 where
  pub world : World
  pub outcome : Outcome
  pub messages : List Message

-- A step that sends messages: they are among those that were ever sent from then on.
abbrev pub shows : World → Outcome → List Message → Effect
shows w outcome messages = record { world = record w { sent = w.sent ++ messages }; outcome = outcome; messages = messages }

-- ---- disks by number

abbrev pub or_blank : {X : Type 0} → Option (Disk X) → Disk X
or_blank None = blank
or_blank (Some d) = d

abbrev pub log_disk_of : World → ℕ → Disk Message
log_disk_of w number = or_blank (fin.get w.log_disk number)

abbrev pub shelf_of : World → ℕ → Disk Item
shelf_of w number = or_blank (fin.get w.shelf number)

abbrev pub or_zero : Option ℕ → ℕ
or_zero None = 0
or_zero (Some n) = n
