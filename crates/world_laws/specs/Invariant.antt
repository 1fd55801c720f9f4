-- The first part of the invariant of the world: messages, logs and disks.
use Rattle.tm_base.specs.declared.message.Message.{Message}
use Rattle.tm_base.specs.declared.message.Node.{Node}
use Rattle.tm_base.specs.declared.message.Node.TheVariants.{Master, LogStore, PageStore, LockManager, Replica}
use Rattle.std.specs.Prelude.{◌≡◌, ℕ}
use Rattle.world_model.specs.World.{World, stopped}
use Rattle.std.specs.declared.option.Option.TheVariants.{Some}
use Rattle.tm_base.specs.declared.command.Command.{Command}
use Rattle.tm_base.specs.declared.step.Step.{Step}
use Rattle.tm_base.specs.declared.step.Step.TheVariants as step
use Rattle.world_model.specs.Nodes.{delivers_to}
use Rattle.world_model.specs.Step.{begin, commands, world_step}
use Rattle.master_model.specs.Facts.{Brings}
use Rattle.world_laws.specs.Beside.{Beside, nothing, with_moved}
use Rattle.world_laws.specs.LogStores.{StoresHold}
use Rattle.world_laws.specs.Lives.{LivesHold}
use Rattle.world_laws.specs.Messages.{AllSay, Says, ViewGoes, view}

pub record LogsHold (w : World) (b : Beside) : Type 0 where
  pub stores : StoresHold w b
  pub lives : LivesHold w b
  pub sent : AllSay (view w b) w.sent

-- What a step leads to, with what is kept beside the world then: all of it holds, and the world has gone on as old messages
-- want it.
pub record StepKeeps (w : World) (b : Beside) (t : World) (c : Beside) : Type 0 where
  pub holds : LogsHold t c
  pub goes : ViewGoes (view w b) (view t c)

-- A message that says what is so, delivered to a log store, keeps all of it: no life, boot number or writer changes by it.
abbrev pub StoreDeliveryHolds : Type 0
StoreDeliveryHolds =
    (w : World) (b : Beside) (number : ℕ) (m : Message)
    → m.to ≡ LogStore number
    → Says (view w b) m
    → LogsHold w b
    → StepKeeps w b (delivers_to w m (LogStore number)).world b

-- What else may become of a log store: it ticks, it stops, it starts again from its disk, and its disk is to fail.
abbrev pub IsOfStore : ℕ → Step → Type 0
IsOfStore number (step.Tick (LogStore n)) = n ≡ number
IsOfStore number (step.Stop (LogStore n) mode) = n ≡ number
IsOfStore number (step.Start (LogStore n)) = n ≡ number
IsOfStore number (step.Fail (LogStore n) call mode) = n ≡ number
IsOfStore number other = ⊥

-- Each keeps all of it.
abbrev pub StoreStepHolds : Type 0
StoreStepHolds = (w : World) (b : Beside) (number : ℕ) (s : Step) → IsOfStore number s → LogsHold w b → StepKeeps w b (world_step w s).world b

-- ---- the lock manager

-- A message that says what is so, delivered to the lock manager, keeps all of it: a close gives a log its end, where a log
-- store is sealed, and at least what the writer's master knew to be durable.
abbrev pub LockDeliveryHolds : Type 0
LockDeliveryHolds = (w : World) (b : Beside) (m : Message) → Says (view w b) m → LogsHold w b → StepKeeps w b (delivers_to w m LockManager).world b

abbrev pub IsOfLocks : Step → Type 0
IsOfLocks (step.Tick LockManager) = Unit {0}
IsOfLocks (step.Stop LockManager mode) = Unit {0}
IsOfLocks (step.Start LockManager) = Unit {0}
IsOfLocks (step.Fail LockManager call mode) = Unit {0}
IsOfLocks other = ⊥

abbrev pub LockStepHolds : Type 0
LockStepHolds = (w : World) (b : Beside) (s : Step) → IsOfLocks s → LogsHold w b → StepKeeps w b (world_step w s).world b

-- ---- page stores, replicas, and masters that start or stop

-- The world's steps that touch no log and no lease: of page stores and replicas, of starts and stops of masters, and those
-- that change nothing.
abbrev pub IsApartNode : Node → Type 0
IsApartNode (PageStore number) = Unit {0}
IsApartNode (Replica number) = Unit {0}
IsApartNode other = ⊥

abbrev pub MayStop : Node → Type 0
MayStop LockManager = ⊥
MayStop (LogStore number) = ⊥
MayStop other = Unit {0}

abbrev pub IsApart : Step → Type 0
IsApart (step.Do number session asked) = ⊥
IsApart (step.Deliver number) = ⊥
IsApart (step.Tick node) = IsApartNode node
IsApart (step.Stop node mode) = MayStop node
IsApart (step.Start node) = MayStop node
IsApart (step.Fail node call mode) = MayStop node
IsApart other = Unit {0}

-- They keep all of it: what a page store or a replica sends says nothing here, and a master that starts registers the boot
-- number that was given out to it.
abbrev pub ApartDeliveryHolds : Type 0
ApartDeliveryHolds = (w : World) (b : Beside) (m : Message) (node : Node) → IsApartNode node → LogsHold w b → StepKeeps w b (delivers_to w m node).world b

abbrev pub ApartStepHolds : Type 0
ApartStepHolds = (w : World) (b : Beside) (s : Step) → IsApart s → LogsHold w b → StepKeeps w b (world_step w s).world b

-- ---- masters

-- A message that says what is so, and that the format of messages can spell, delivered to the master that it names; a
-- command; and a tick: each keeps all of it, with what is kept beside the world after the step.
abbrev pub MasterDeliveryHolds : Type 0
MasterDeliveryHolds =
    (w : World) (b : Beside) (number : ℕ) (m : Message)
    → m.to ≡ Master number
    → Says (view w b) m
    → Brings m
    → LogsHold w b
    → StepKeeps w b (delivers_to w m (Master number)).world (with_moved b w (delivers_to w m (Master number)).world (Some number))

abbrev pub CommandHolds : Type 0
CommandHolds =
    (w : World) (b : Beside) (number session : ℕ) (asked : Command)
    → LogsHold w b
    → StepKeeps w b (commands w number session asked).world (with_moved b w (commands w number session asked).world (Some number))

abbrev pub MasterTickHolds : Type 0
MasterTickHolds = (w : World) (b : Beside) (number : ℕ) → LogsHold w b → StepKeeps w b (world_step w (step.Tick (Master number))).world b

-- ---- the beginning

-- It holds when all nodes have started.
abbrev pub BeginHolds : Type 0
BeginHolds = (masters page_stores replicas : ℕ) → LogsHold (begin masters page_stores replicas) nothing

-- It holds before any node has started.
abbrev pub StoppedHolds : Type 0
StoppedHolds = (masters page_stores replicas : ℕ) → LogsHold (stopped masters page_stores replicas) nothing
