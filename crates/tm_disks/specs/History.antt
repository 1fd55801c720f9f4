-- What the history of a file in memory keeps true, and what it tells of its newest change.
use Rattle.std.specs.Prelude.{◌≡◌, ℕ, ◌+◌, ◌*◌, ◌≤◌, List, [], ◌∷◌, length, Vec}
use Rattle.std.specs.Vec.{vec_capacity, vec_len}
use Rattle.std.specs.declared.alloc.Global.{Global}
use Rattle.std.specs.declared.option.Option.{Option}
use Rattle.std.specs.declared.option.Option.TheVariants.{None, Some}
use Rattle.tm_disks.specs.MemoryDisk.{Change, spans}
use Rattle.tm_disks.specs.declared.history.Mark.{Mark}

-- the marks own all of the kept bytes, and there is memory for so many more changes of at most so many bytes
pub record IsRoomy (ms : Vec Mark Global) (ks : Vec ℕ Global) (most changes : ℕ) : Type 0 where
  pub owned : spans ms.items ≡ length ks.items
  pub marks : vec_len ms + changes ≤ vec_capacity ms
  pub kept : vec_len ks + changes * most ≤ vec_capacity ks

abbrev pub mark_of : Change → Mark
mark_of ch = record { at = ch.at; span = length ch.kept; size = ch.size; is_sync = ch.is_sync }

abbrev pub newest_mark : List Change → Option Mark
newest_mark [] = None
newest_mark (ch ∷ chs) = Some (mark_of ch)

abbrev pub newest_kept : List Change → List ℕ
newest_kept [] = []
newest_kept (ch ∷ chs) = ch.kept

abbrev pub older : List Change → List Change
older [] = []
older (ch ∷ chs) = chs

-- how many bytes it overwrote
abbrev pub span_of : Option Mark → ℕ
span_of None = 0
span_of (Some m) = m.span
