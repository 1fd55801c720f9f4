-- What a journal has.
use Rattle.std.specs.Prelude.{ℕ, ◌+◌, ◌^◌, ◌≤◌, ◌<◌, Bool, List, Result}
use Rattle.std.specs.declared.result.Result.TheVariants.{Ok, Err}
use Rattle.std.specs.Vec.{vec_capacity}
use Rattle.tm_disks.specs.Disk.{HasRoom}
use Rattle.tm_disks.specs.declared.disk.Disk.{Ghosts}
use Rattle.journal_core.specs.declared.error.Unopened.{Unopened}
use Rattle.journal_core.specs.declared.journal.Journal.{Journal}

module _ {D : Type 0} {g : Ghosts D} where
  -- its disk
  abbrev pub disk_of : Journal D g → D
  disk_of j = j.disk

  -- the bodies of the records that were there when it was opened
  abbrev pub records_of : Journal D g → List (List ℕ)
  records_of j = j.bodies.items

  -- the offset of the file's end gate
  abbrev pub end_of : Journal D g → ℕ
  end_of j = j.end

  -- an append failed
  abbrev pub is_shut : Journal D g → Bool
  is_shut j = j.is_closed

  -- there is room to append a body of so many bytes
  pub record CanTake (j : Journal D g) (n : ℕ) : Type 0 where
    pub buffer : 5 + n ≤ vec_capacity j.buffer
    pub place : j.end + 6 + n < 2 ^ 64
    pub room : HasRoom (j.end + 6 + n) 4 (g.room j.disk)

  -- the disk after an opening
  abbrev pub left_disk : Result (Journal D g) (Unopened D) → D
  left_disk (Ok j) = j.disk
  left_disk (Err u) = u.disk
