-- A node's disk: the list of records of its file, and how its device calls may fail.
--
-- The file is a list of records and an end gate of one byte. A record is a gate, its length in four bytes, and its body.
-- An append writes length, body and a new end gate behind the present one, syncs, opens the old gate, and syncs; so a
-- record is there as soon as its gate is open, and what lies behind the end gate counts for nothing.
use Rattle.std.specs.Prelude.{ℕ, ◌+◌, ◌-◌, ◌/◌, Bool, true, false, cond, ◌&&◌, ◌||◌, nat_eq, nat_le, List, [], ◌∷◌, ◌++◌, sum_by}
use Rattle.std.specs.declared.option.Option.{Option}
use Rattle.std.specs.declared.option.Option.TheVariants.{None, Some}

-- A device call that is to fail: which one from now on, from 1, and what then is left of the writes since the last sync:
-- in mode 0 none, in mode 1 all, and in mode 2 their places are filled with a byte that is no open gate.
pub record Armed : Type 0 where
  pub call : ℕ
  pub mode : ℕ

-- The records of the file, its size in bytes, and the call that is to fail, if there is one.
pub record Disk (X : Type 0) : Type 0 where
  pub records : List X
  pub size : ℕ
  pub armed : Option Armed

-- A disk without a file.
abbrev pub blank : {X : Type 0} → Disk X
blank = record { records = []; size = 0; armed = None }

abbrev pub arm : {X : Type 0} → Disk X → ℕ → ℕ → Disk X
arm d call mode = record d { armed = Some (record { call = call; mode = mode }) }

-- Of so many calls the one that fails, from 1, with its mode.
abbrev pub failing : ℕ → Option Armed → Option Armed
failing calls None = None
failing calls (Some a) = cond (nat_le a.call calls) (Some a) None

-- What is armed after so many calls of which none failed.
abbrev pub lowered : ℕ → Option Armed → Option Armed
lowered calls None = None
lowered calls (Some a) = Some (record a { call = a.call - calls })

-- A record takes a gate, four bytes and its body.
abbrev pub bytes_of : {X : Type 0} → (X → ℕ) → List X → ℕ
bytes_of body records = sum_by (λ x. 5 + body x) records

-- ---- an append

-- The disk after some work, and whether no call of it failed.
pub record Worked (X : Type 0) : Type 0 where
  pub disk : Disk X
  pub done : Bool

-- The record stays where the gate was opened: the third call, or the fourth, failed and all writes are kept. What was
-- written behind the end gate, and wasn't lost, makes the file longer.
abbrev pub is_kept : Armed → Bool
is_kept a = nat_eq a.mode 1 && nat_le 3 a.call

abbrev pub is_longer : Armed → Bool
is_longer a = nat_le 3 a.call || nat_le 1 a.mode

abbrev pub appended_as : {X : Type 0} → Disk X → X → ℕ → Option Armed → Worked X
appended_as d x body None =
    record { disk = record { records = d.records ++ x ∷ []; size = d.size + 5 + body; armed = lowered 4 d.armed }; done = true }
appended_as d x body (Some a) = record {
  disk = record {
    records = cond (is_kept a) (d.records ++ x ∷ []) d.records;
    size = cond (is_longer a) (d.size + 5 + body) d.size;
    armed = None;
  };
  done = false;
}

-- An append makes four calls.
abbrev pub appended : {X : Type 0} → (X → ℕ) → Disk X → X → Worked X
appended body d x = appended_as d x (body x) (failing 4 d.armed)

-- Several records, one after another, until one fails.
abbrev pub goes_on : {X : Type 0} → Worked X → (Disk X → Worked X) → Worked X
goes_on w further = cond w.done (further w.disk) w

abbrev pub appended_all : {X : Type 0} → (X → ℕ) → List X → Disk X → Worked X
appended_all body [] d = record { disk = d; done = true }
appended_all body (x ∷ xs) d = goes_on (appended body d x) (appended_all body xs)

-- ---- an opening

-- A file of at most one byte is made anew by a write and a sync, after open, sync and size.
abbrev pub made_as : {X : Type 0} → Disk X → Option Armed → Worked X
made_as d None = record { disk = record d { size = 1; armed = lowered 5 d.armed }; done = true }
made_as d (Some a) = record {
  disk = record d { size = cond (nat_le 4 a.call && nat_le 1 a.mode) 1 d.size; armed = None };
  done = false;
}

-- Of a longer one 65,536 bytes are read at a time; what lies behind the end gate is cut off, and that is synced.
abbrev pub reads : ℕ → ℕ
reads size = (size + 65535) / 65536

abbrev pub read_as : {X : Type 0} → (X → ℕ) → Disk X → Option Armed → Worked X
read_as body d None =
    record { disk = record d { size = 1 + bytes_of body d.records; armed = lowered (5 + reads d.size) d.armed }; done = true }
read_as body d (Some a) = record {
  disk = record d {
    size = cond (nat_le (4 + reads d.size) a.call && nat_eq a.mode 1) (1 + bytes_of body d.records) d.size;
    armed = None;
  };
  done = false;
}

abbrev pub opened_by : {X : Type 0} → (X → ℕ) → Disk X → Bool → Worked X
opened_by body d true = made_as d (failing 5 d.armed)
opened_by body d false = read_as body d (failing (5 + reads d.size) d.armed)

abbrev pub opened : {X : Type 0} → (X → ℕ) → Disk X → Worked X
opened body d = opened_by body d (nat_le d.size 1)
