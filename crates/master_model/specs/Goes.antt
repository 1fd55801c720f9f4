-- How a master's state goes on.
use Rattle.std.specs.Prelude.{◌≡◌, ◌≤◌, ℕ, ◌+◌, ◌-◌, List, ◌++◌, drop, length, true}
use Rattle.std.specs.Ordering.{nat_cmp}
use Rattle.std.specs.FinMap.{FinMap}
use Rattle.std.specs.FinMap as fin
use Rattle.std.specs.FinSet.{FinSet}
use Rattle.std.specs.FinSet as sets
use Rattle.std.specs.declared.option.Option.{Option}
use Rattle.std.specs.declared.option.Option.TheVariants.{None, Some}
use Rattle.tm_data.specs.declared.log.Group.{Group}
use Rattle.tm_data.specs.declared.transaction.Txn.{Txn}
use Rattle.tm_data.specs.declared.transaction.Writer.{Writer}
use Rattle.tm_data.specs.Orders.{txn_cmp}
use Rattle.tm_data.specs.Vectors.{stamp_of}
use Rattle.vs_clock.specs.State as clock
use Rattle.log_writer.specs.Log.{Log, durable_seq, is_marked, last_seq}
use Rattle.lease_desk.specs.declared.lease.Lease.{Lease}
use Rattle.lease_desk.specs.declared.lease.Lease.TheVariants as lease
use Rattle.lease_desk.specs.declared.lease.PageLease.{PageLease}
use Rattle.lease_desk.specs.Desk.{Leases, is_releasing, lease_of}
use Rattle.master_model.specs.declared.left.Left.{Left}
use Rattle.master_model.specs.State.{Work, Life, State}
use Rattle.master_model.specs.Facts.{groups_of}

-- ---- a writer

-- Its log grows at the end, keeps its groups but for those that it lets go from the front, and loses no acknowledgement.
pub record LogGoes (old new : Log) : Type 0 where
  pub writer : new.writer ≡ old.writer
  pub gone : old.gone ≤ new.gone
  pub groups : (more : List Group) × (last_seq new ≡ last_seq old + length more) × (groups_of new ≡ drop (new.gone - old.gone) (groups_of old ++ more))
  pub marks : (seq store : ℕ) → is_marked old seq store ≡ true → is_marked new seq store ≡ true
  pub durable : durable_seq old ≤ durable_seq new

-- Its clock is the same writer's, and what it heard of each writer never falls.
pub record ClockGoes (old new : clock.State) : Type 0 where
  pub writer : new.writer ≡ old.writer
  pub scalar : old.scalar ≤ new.scalar
  pub heard : (w : ℕ) → stamp_of old.heard w ≤ stamp_of new.heard w

-- Epochs of pages never fall.
abbrev pub EpochsGo : Leases → Leases → Type 0
EpochsGo old new = (page : ℕ) → (lease_of old page).epoch ≤ (lease_of new page).epoch

-- How far a lease has come in its epoch: held, recalled, being given back, over.
abbrev pub rank : Lease → ℕ
rank lease.Held = 0
rank lease.Recalled = 1
rank lease.Releasing = 2
rank lease.None = 3

-- A page's lease, and what is kept of it. The epoch never falls; in one epoch a lease comes further and never back, and
-- what is kept of a page that is being given back stays until the lease is over.
pub record PlaceGoes (old new : PageLease) (told now : Option Left) : Type 0 where
  pub epoch : old.epoch ≤ new.epoch
  pub rank : new.epoch ≡ old.epoch → rank old.state ≤ rank new.state
  pub kept : new.epoch ≡ old.epoch → is_releasing old.state ≡ true → is_releasing new.state ≡ true → now ≡ told

abbrev pub PlacesGo : Leases → FinMap nat_cmp Left → Leases → FinMap nat_cmp Left → Type 0
PlacesGo old told new now = (page : ℕ) → PlaceGoes (lease_of old page) (lease_of new page) (fin.get told page) (fin.get now page)

-- An end of another writer's transaction is kept for ever.
abbrev pub EndsGo : FinSet txn_cmp → FinSet txn_cmp → Type 0
EndsGo old new = (t : Txn) → sets.contains old t ≡ true → sets.contains new t ≡ true

pub record WorkGoes (old new : Work) : Type 0 where
  pub number : new.number ≡ old.number
  pub stores : new.stores ≡ old.stores
  pub log_goes : LogGoes old.log new.log
  pub clock_goes : ClockGoes old.clock new.clock
  pub epochs : EpochsGo old.leases new.leases
  pub places : PlacesGo old.leases old.left new.leases new.left
  pub ends : EndsGo old.ended new.ended
  -- the numbers of transactions and of requests for fresh pages never fall
  pub begun : old.begun ≤ new.begun
  pub fresh : old.fresh ≤ new.fresh

-- ---- a master

pub record LifeGoes (old new : Life) : Type 0 where
  pub work_goes : WorkGoes old.work new.work
  -- a writer that is known to be recovered stays so
  pub recovered : (w : Writer) → sets.contains old.recovered w ≡ true → sets.contains new.recovered w ≡ true
  -- it stays fenced
  pub fenced : old.fenced ≡ true → new.fenced ≡ true

-- It joins once.
abbrev pub JoinedGoes : Option Life → Option Life → Type 0
JoinedGoes None new = Unit {0}
JoinedGoes (Some old) None = ⊥
JoinedGoes (Some old) (Some new) = LifeGoes old new

pub record Goes (old new : State) : Type 0 where
  pub number : new.number ≡ old.number
  pub boot : new.boot ≡ old.boot
  pub stores : new.stores ≡ old.stores
  pub life : JoinedGoes old.life new.life
