-- What a delivery leaves as it was: it changes the node that it goes to, that node's disk, what was sent, and what is kept
-- of the run.
use Rattle.std.specs.Prelude.{◌≡◌, ◌≢◌, ℕ, List, ◌++◌}
use Rattle.std.specs.Ordering.{nat_cmp}
use Rattle.std.specs.FinMap.{FinMap}
use Rattle.std.specs.FinMap as fin
use Rattle.tm_base.specs.declared.message.Message.{Message}
use Rattle.tm_base.specs.declared.message.Node.{Node}
use Rattle.tm_base.specs.declared.message.Node.TheVariants.{Master, LogStore, PageStore, LockManager, Replica}
use Rattle.world_model.specs.World.{World}
use Rattle.world_model.specs.Nodes.{delivers_to}

-- Two maps have the same under every number but one.
abbrev pub SameButOne : {X : Type 0} → ℕ → FinMap nat_cmp X → FinMap nat_cmp X → Type 0
SameButOne number old new = (other : ℕ) → other ≢ number → fin.get new other ≡ fin.get old other

-- How many nodes there are, and how often each has started.
pub record SameCounts (w t : World) : Type 0 where
  pub masters : t.masters ≡ w.masters
  pub page_stores : t.page_stores ≡ w.page_stores
  pub replicas : t.replicas ≡ w.replicas
  pub boots : t.boots ≡ w.boots
  pub lives : t.lives ≡ w.lives

-- What was sent stays among what was ever sent, in its place.
abbrev pub IsLonger : List Message → List Message → Type 0
IsLonger old new = (more : List Message) × (new ≡ old ++ more)

-- All masters but the one that the node is, if it is one; and so for the other kinds, with their disks.
abbrev pub MastersSame : Node → World → World → Type 0
MastersSame (Master number) w t = SameButOne number w.master t.master
MastersSame other w t = t.master ≡ w.master

abbrev pub LockSame : Node → World → World → Type 0
LockSame LockManager w t = Unit {0}
LockSame other w t = (t.lock ≡ w.lock) × (t.lock_disk ≡ w.lock_disk)

abbrev pub LogsSame : Node → World → World → Type 0
LogsSame (LogStore number) w t = SameButOne number w.log t.log × SameButOne number w.log_disk t.log_disk
LogsSame other w t = (t.log ≡ w.log) × (t.log_disk ≡ w.log_disk)

abbrev pub PagesSame : Node → World → World → Type 0
PagesSame (PageStore number) w t = SameButOne number w.page t.page × SameButOne number w.shelf t.shelf
PagesSame other w t = (t.page ≡ w.page) × (t.shelf ≡ w.shelf)

abbrev pub ReplicasSame : Node → World → World → Type 0
ReplicasSame (Replica number) w t = SameButOne number w.replica t.replica
ReplicasSame other w t = t.replica ≡ w.replica

-- A log store and a replica add nothing to what is kept of the run.
abbrev pub PastSame : Node → World → World → Type 0
PastSame (LogStore number) w t = t.past ≡ w.past
PastSame (Replica number) w t = t.past ≡ w.past
PastSame other w t = Unit {0}

pub record SameBut (node : Node) (w t : World) : Type 0 where
  pub counts : SameCounts w t
  pub sent : IsLonger w.sent t.sent
  pub masters : MastersSame node w t
  pub lock : LockSame node w t
  pub logs : LogsSame node w t
  pub pages : PagesSame node w t
  pub replicas : ReplicasSame node w t
  pub past : PastSame node w t

-- A message changes no other node than the one that it is delivered to.
abbrev pub DeliveryHasFrame : Type 0
DeliveryHasFrame = (w : World) (m : Message) (node : Node) → SameBut node w (delivers_to w m node).world
