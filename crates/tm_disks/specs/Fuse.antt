-- What a fuse has.
use Rattle.std.specs.Prelude.{◌≡◌, ℕ}
use Rattle.tm_disks.specs.declared.fuse.Fuse.{Fuse}

-- the disk that it passes calls on to
abbrev pub disk_of : {D : Type 0} → Fuse D → D
disk_of f = f.disk

-- how many calls it still passes on
abbrev pub calls_left : {D : Type 0} → Fuse D → ℕ
calls_left f = f.left

-- it has failed no call
abbrev pub IsFresh : {D : Type 0} → Fuse D → Type 0
IsFresh f = f.refused ≡ 0
