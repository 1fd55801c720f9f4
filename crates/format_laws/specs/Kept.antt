-- What nodes keep, so that what they send can be spelled.
use Rattle.std.specs.Prelude.{◌≡◌, ℕ, List}
use Rattle.std.specs.List.{AllByRecursion}
use Rattle.std.specs.FinMap as fin
use Rattle.std.specs.declared.option.Option.{Option}
use Rattle.std.specs.declared.option.Option.TheVariants.{None, Some}
use Rattle.tm_base.specs.declared.message.Message.{Message}
use Rattle.lease_desk.specs.Desk.{lease_of}
use Rattle.lock_model.specs.declared.page.PageEntry.{PageEntry}
use Rattle.lock_model.specs.declared.writer.WriterEntry.{WriterEntry}
use Rattle.lock_model.specs.declared.writer.WriterStatus.{WriterStatus}
use Rattle.lock_model.specs.declared.writer.WriterStatus.TheVariants.{Recovered}
use Rattle.lock_model.specs.State as locks
use Rattle.lock_model.specs.State.{at, page_in}
use Rattle.master_model.specs.declared.left.Left.{Left}
use Rattle.master_model.specs.Facts.{Brought, GroupBrought}
use Rattle.master_model.specs.State.{Work, Life, Recovery}
use Rattle.format_laws.specs.Spelled.{AllSpelled, IsStamp}

-- ---- a master

pub record LeftIsSpelled (l : Left) : Type 0 where
  pub vector : Brought l.vector
  pub stamp : IsStamp l.stamp.0

-- The stamp of each page's last change, and what was told of each page that is being given back.
pub record WorkIsSpelled (w : Work) : Type 0 where
  pub leases : (page : ℕ) → IsStamp (lease_of w.leases page).stamp.0
  pub left : (page : ℕ) (l : Left) → fin.get w.left page ≡ Some l → LeftIsSpelled l

-- And the groups that a recovery has read of a closed log.
abbrev pub ScannedAreSpelled : Option Recovery → Type 0
ScannedAreSpelled None = Unit {0}
ScannedAreSpelled (Some r) = AllByRecursion GroupBrought r.scanned

-- What its clock and log have is said by the facts of every master.
abbrev pub LifeIsSpelled : Option Life → Type 0
LifeIsSpelled None = Unit {0}
LifeIsSpelled (Some l) = WorkIsSpelled l.work × ScannedAreSpelled l.recovery

-- ---- the lock manager

-- Of a page its stamp and its vector.
pub record PageIsSpelled (e : PageEntry) : Type 0 where
  pub vector : Brought e.vector
  pub stamp : IsStamp e.stamp.0

-- Of a recovered writer the vector of what was undone.
abbrev pub StatusIsSpelled : WriterStatus → Type 0
StatusIsSpelled (Recovered length store vector) = Brought vector
StatusIsSpelled other = Unit {0}

pub record LocksAreSpelled (s : locks.State) : Type 0 where
  pub scalar : IsStamp s.scalar
  pub pages : (page : ℕ) → PageIsSpelled (page_in s page)
  pub writers : (writer : ℕ) (e : WriterEntry) → at s.writers writer ≡ Some e → StatusIsSpelled e.status

-- ---- log stores, page stores and replicas

-- After a step: the scalar, and what is sent.
pub record KeepsSpelled (scalar : ℕ) (sent : List Message) : Type 0 where
  pub scalar_is : IsStamp scalar
  pub sent_are : AllSpelled sent
