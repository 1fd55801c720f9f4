-- What a few calls of a disk do together.
use Rattle.std.specs.Prelude.{◌≡◌, ℕ, ◌+◌, ◌≤◌, List}
use Rattle.tm_disks.specs.Disk.{Torn, Cut, LeavesOnly, Room}

-- one of the old outcomes of a crash, or what a write of n bytes that is cut short makes of it
abbrev pub TornOf : (List ℕ → Type 0) → ℕ → ℕ → List ℕ → Type 0
TornOf may_leave at n c = (d : List ℕ) × may_leave d × Torn at n d c

-- one of the old outcomes of a crash, or what a cut that isn't on the disk yet makes of it
abbrev pub CutOf : (List ℕ → Type 0) → ℕ → List ℕ → Type 0
CutOf may_leave n c = (d : List ℕ) × may_leave d × Cut n d c

-- two changes were made
pub record UsesTwo (old new : Room) : Type 0 where
  pub size : old.size ≤ new.size
  pub changes : old.changes ≤ new.changes + 2

-- no byte changes, and a crash since old leaves what it might have left then
pub record Rests {D : Type 0} (seen : D → List ℕ) (may_leave : D → List ℕ → Type 0) (moment : D → ℕ) (left_since : D → ℕ → List ℕ → Type 0) (old new : D) : Type 0 where
  pub same : seen new ≡ seen old
  pub crash : (c : List ℕ) → may_leave new c → may_leave old c
  pub times : LeavesOnly moment left_since old new (may_leave old)
