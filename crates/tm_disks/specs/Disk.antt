-- What the calls of a disk do to its file, and what a crash may leave of it.
use Rattle.std.specs.Prelude.{◌≡◌, ◌⊎◌, ◌↔◌, ℕ, ◌+◌, ◌-◌, ◌≤◌, min, max, Bool, false, IsTrue, cond, ◌||◌, nat_eq, nat_le, List, [], ◌∷◌, ◌++◌, length, take, drop, Result, IsErr}
use Rattle.std.specs.declared.option.Option.{Option}
use Rattle.std.specs.declared.option.Option.TheVariants.{None, Some}

-- ---- reads and writes

-- a read from this offset on gave as many bytes as there was room for, or as the file has
pub record Reads (file : List ℕ) (at : ℕ) (into : List ℕ) (n : ℕ) : Type 0 where
  pub count : n ≡ min (length into) (length file - at)
  pub bytes : take n into ≡ take n (drop at file)

-- new is old with these bytes at this offset
abbrev pub Holds : List ℕ → ℕ → List ℕ → List ℕ → Type 0
Holds old at bytes new = new ≡ take at old ++ bytes ++ drop (at + length bytes) old

-- ---- what a crash may leave

-- after a write of n bytes that a crash cuts short: any bytes in the range and past the old end, the same elsewhere
pub record Torn (at n : ℕ) (old new : List ℕ) : Type 0 where
  pub before : take at new ≡ take at old
  pub after : drop (at + n) new ≡ drop (at + n) old
  pub no_shorter : length old ≤ length new
  pub no_longer : length new ≤ max (length old) (at + n)

-- after a cut to n bytes: any bytes past the new end, up to the old one
pub record Cut (n : ℕ) (old new : List ℕ) : Type 0 where
  pub front : take n new ≡ take n old
  pub no_shorter : min (length old) n ≤ length new
  pub no_longer : length new ≤ length old

-- each new outcome of a crash is an old outcome after a step
abbrev pub Follows : (List ℕ → List ℕ → Type 0) → (List ℕ → Type 0) → (List ℕ → Type 0) → Type 0
Follows step old new = (c : List ℕ) → new c → (d : List ℕ) × old d × step d c

-- a crash leaves this and nothing else
abbrev pub Only : List ℕ → (List ℕ → Type 0) → Type 0
Only file outcomes = (c : List ℕ) → outcomes c → c ≡ file

-- time goes on: a crash since t might have left what it might have left before, or what it may leave now
pub record Elapses (before now : ℕ) (past since : ℕ → List ℕ → Type 0) (may_leave : List ℕ → Type 0) : Type 0 where
  pub later : before ≤ now
  pub nothing_else : (t : ℕ) (c : List ℕ) → t ≤ before → since t c → past t c ⊎ may_leave c
  pub keeps : (t : ℕ) (c : List ℕ) → t ≤ before → past t c → since t c

-- a crash at any moment since old leaves a file that has P
pub record LeavesOnly {D : Type 0} (moment : D → ℕ) (left_since : D → ℕ → List ℕ → Type 0) (old new : D) (P : List ℕ → Type 0) : Type 0 where
  pub later : moment old ≤ moment new
  pub each : (c : List ℕ) → left_since new (moment old) c → P c
  -- for a run that began earlier
  pub before : (t : ℕ) (c : List ℕ) → t ≤ moment old → left_since new t c → left_since old t c ⊎ P c

-- no byte changes, and a crash leaves nothing that it didn't leave before
pub record Stands {D : Type 0} (seen : D → List ℕ) (may_leave : D → List ℕ → Type 0) (moment : D → ℕ) (left_since : D → ℕ → List ℕ → Type 0) (old new : D) : Type 0 where
  pub same : seen new ≡ seen old
  pub crash : (c : List ℕ) → may_leave new c → may_leave old c
  pub time : Elapses (moment old) (moment new) (left_since old) (left_since new) (may_leave new)

-- ---- room

-- so many more changes, none of them past this size, take no memory
pub record Room : Type 0 where
  pub size : ℕ
  pub changes : ℕ

-- a change uses up room for one change at most
pub record Uses (old new : Room) : Type 0 where
  pub size : old.size ≤ new.size
  pub changes : old.changes ≤ new.changes + 1

-- there is at least this room
pub record HasRoom (bytes calls : ℕ) (room : Room) : Type 0 where
  pub size : bytes ≤ room.size
  pub changes : calls ≤ room.changes

-- ---- calls that are to fail

-- The numbers of the coming calls that are to fail, of which the next call has number 1: those that were listed from the
-- start, and one that was named since.
pub record Failing : Type 0 where
  pub listed : List ℕ
  pub named : Option ℕ

abbrev pub is_next : Option ℕ → Bool
is_next None = false
is_next (Some n) = nat_eq n 1

abbrev pub has_next : List ℕ → Bool
has_next [] = false
has_next (n ∷ ns) = nat_eq n 1 || has_next ns

-- the next call fails
abbrev pub fails_next : Failing → Bool
fails_next f = is_next f.named || has_next f.listed

-- a call was made: its number goes, and each other one is lowered by one
abbrev pub one_lower : Option ℕ → Option ℕ
one_lower None = None
one_lower (Some n) = cond (nat_le n 1) None (Some (n - 1))

abbrev pub all_lower : List ℕ → List ℕ
all_lower [] = []
all_lower (n ∷ ns) = cond (nat_le n 1) (all_lower ns) ((n - 1) ∷ all_lower ns)

abbrev pub lowered : Failing → Failing
lowered f = record { listed = all_lower f.listed; named = one_lower f.named }

-- where a disk tells which calls are to fail, a call fails exactly if it is one of them
abbrev pub Obeys : {T E : Type 0} → Option Failing → Option Failing → Result T E → Type 0
Obeys None new result = new ≡ None
Obeys (Some f) new result = (IsErr result ↔ IsTrue (fails_next f)) × (new ≡ Some (lowered f))

-- the call of this number from now on is to fail, in place of one that was named before
abbrev pub with_named : Option Failing → ℕ → Option Failing
with_named None k = None
with_named (Some f) k = Some (record f { named = Some k })
