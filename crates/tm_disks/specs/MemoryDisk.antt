-- A file in memory: its bytes, and each change that was made of them, the newest first.
use Rattle.std.specs.Prelude.{◌≡◌, ◌⊎◌, ℕ, zero, suc, ◌+◌, ◌-◌, ◌^◌, ◌≤◌, max, Bool, true, false, cond, ◌&&◌, nat_lt, List, [], ◌∷◌, ◌++◌, length, take, drop, replicate}
use Rattle.std.specs.declared.option.Option.{Option}
use Rattle.std.specs.declared.option.Option.TheVariants.{None}
use Rattle.tm_disks.specs.Disk.{Failing, Room}
use Rattle.tm_disks.specs.declared.history.Mark.{Mark}

-- ---- the file and its past

-- So many of the stored bytes are the file's; the rest is room.
pub record File : Type 0 where
  pub store : List ℕ
  pub size : ℕ

abbrev pub seen_in : File → List ℕ
seen_in f = take f.size f.store

-- A change: where it wrote, the stored bytes that it overwrote there, and the size before it. A cut overwrites none, and
-- neither does a sync.
pub record Change : Type 0 where
  pub at : ℕ
  pub kept : List ℕ
  pub size : ℕ
  pub is_sync : Bool

-- The stored bytes with others at an offset.
abbrev pub over : List ℕ → List ℕ → List ℕ
over store [] = store
over [] (b ∷ bytes) = []
over (s ∷ store) (b ∷ bytes) = b ∷ over store bytes

abbrev pub put : List ℕ → ℕ → List ℕ → List ℕ
put store zero bytes = over store bytes
put [] (suc at) bytes = []
put (s ∷ store) (suc at) bytes = s ∷ put store at bytes

-- The file before the change.
abbrev pub undone : Change → File → File
undone ch f = record { store = put f.store ch.at ch.kept; size = ch.size }

-- ---- what a crash leaves

-- The bytes at the last sync.
abbrev pub synced : List Change → File → List ℕ
synced [] f = seen_in f
synced (ch ∷ chs) f = cond ch.is_sync (seen_in f) (synced chs (undone ch f))

-- The places written since the last sync have the byte 255, and no cut is made.
abbrev pub filled_by : Change → File → File
filled_by ch f = record { store = put f.store ch.at (replicate (length ch.kept) 255); size = max f.size ch.size }

abbrev pub filled : List Change → File → List ℕ
filled [] f = seen_in f
filled (ch ∷ chs) f = cond ch.is_sync (seen_in f) (filled chs (filled_by ch f))

-- What a crash leaves in each mode: no change since the last sync (0), all of them (1), or their places filled (2).
abbrev pub left_in : ℕ → List Change → File → List ℕ
left_in zero chs f = synced chs f
left_in (suc zero) chs f = seen_in f
left_in (suc (suc mode)) chs f = filled chs f

abbrev pub Leaves : List Change → File → List ℕ → Type 0
Leaves chs f c = (c ≡ seen_in f) ⊎ (c ≡ synced chs f) ⊎ (c ≡ filled chs f)

-- What a crash now or at one of the n moments before might have left.
abbrev pub HadLeft : ℕ → List Change → File → List ℕ → Type 0
HadLeft zero chs f c = Leaves chs f c
HadLeft (suc n) [] f c = Leaves [] f c
HadLeft (suc n) (ch ∷ chs) f c = Leaves (ch ∷ chs) f c ⊎ HadLeft n chs (undone ch f) c

-- ---- how the past is kept

-- The changes, and room for more.
pub record Past : Type 0 where
  pub changes : List Change
  pub room : Room

-- Each mark owns so many of the overwritten bytes, the oldest the first of them.
abbrev pub newest_first : List Change → List Mark → List ℕ → List Change
newest_first newer [] kept = newer
newest_first newer (m ∷ ms) kept =
    newest_first (record { at = m.at; kept = take m.span kept; size = m.size; is_sync = m.is_sync } ∷ newer) ms (drop m.span kept)

abbrev pub spans : List Mark → ℕ
spans [] = 0
spans (m ∷ ms) = m.span + spans ms

-- ---- calls that are to fail

-- How many calls were made and how many failed, the numbers of those that are to fail, counted from 1, and how many calls
-- from now on one fails that was named since.
pub record DiskCalls : Type 0 where
  pub made : ℕ
  pub failed : ℕ
  pub fails : List ℕ
  pub named : Option ℕ

-- The numbers that are still to come, counted from the next call on.
abbrev pub coming : List ℕ → ℕ → List ℕ
coming [] made = []
coming (f ∷ fs) made = cond (nat_lt made f && nat_lt f (2 ^ 64)) ((f - made) ∷ coming fs made) (coming fs made)

abbrev pub failing_of : DiskCalls → Failing
failing_of calls = record { listed = coming calls.fails calls.made; named = calls.named }

-- ---- a file with its past

pub record Content : Type 0 where
  pub file : File
  pub past : Past

abbrev pub used : Past → Change → Past
used past ch = record { changes = ch ∷ past.changes; room = record { size = past.room.size; changes = past.room.changes - 1 } }

-- After a write: the bytes are stored, and what they overwrote is kept.
abbrev pub written : ℕ → List ℕ → File → File
written at bytes f = record { store = put f.store at bytes; size = max f.size (at + length bytes) }

abbrev pub write_of : ℕ → List ℕ → File → Change
write_of at kept f = record { at = at; kept = kept; size = f.size; is_sync = false }

abbrev pub wrote : ℕ → List ℕ → Content → Content
wrote at bytes c = record { file = written at bytes c.file; past = used c.past (write_of at (take (length bytes) (drop at c.file.store)) c.file) }

-- After a cut.
abbrev pub shortened : ℕ → File → File
shortened n f = record { store = f.store; size = n }

abbrev pub cut_to : ℕ → Content → Content
cut_to n c = record { file = shortened n c.file; past = used c.past (write_of 0 [] c.file) }

-- After a sync.
abbrev pub sync_of : File → Change
sync_of f = record { at = 0; kept = []; size = f.size; is_sync = true }

abbrev pub was_synced : Content → Content
was_synced c = record { file = c.file; past = used c.past (sync_of c.file) }

-- More room behind the file, and the same past.
abbrev pub padded : List ℕ → File → File
padded more f = record { store = f.store ++ more; size = f.size }

pub record Padded (old new : Content) : Type 0 where
  pub more : List ℕ
  pub file : new.file ≡ padded more old.file
  pub changes : new.past.changes ≡ old.past.changes

-- Each change is within so many stored bytes, and so was the file before it.
abbrev pub AreInside : ℕ → List Change → Type 0
AreInside n [] = Unit {0}
AreInside n (ch ∷ chs) = (ch.at + length ch.kept ≤ n) × (ch.size ≤ n) × AreInside n chs

-- The file is within what is stored, and so are its changes and those for which there is room.
pub record IsWhole (f : File) (past : Past) : Type 0 where
  pub inside : f.size ≤ length f.store
  pub room : past.room.size ≤ length f.store
  pub changes : AreInside (length f.store) past.changes

-- A file of these bytes, all of them on the disk.
abbrev pub new_content : List ℕ → Content
new_content bytes = record {
  file = record { store = bytes; size = length bytes };
  past = record { changes = []; room = record { size = 0; changes = 0 } };
}

-- ---- the disk

pub record MemoryFile : Type 0 where
  pub file : File
  pub past : Past
  pub calls : DiskCalls

abbrev pub new_file : List ℕ → List ℕ → MemoryFile
new_file bytes fails = record {
  file = (new_content bytes).file;
  past = (new_content bytes).past;
  calls = record { made = 0; failed = 0; fails = fails; named = None };
}
