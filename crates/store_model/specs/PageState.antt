-- The state of a page store.
use Rattle.std.specs.Prelude.{ℕ, ◌+◌, ◌%◌, Bool, true, false, ◌&&◌, not, nat_eq, nat_lt, refl}
use Rattle.std.specs.Ordering.{nat_cmp}
use Rattle.std.specs.FinMap.{FinMap, empty, get}
use Rattle.std.specs.FinMap as fin
use Rattle.std.specs.Coded.{Coded, code_by, coded×, coded_ℕ}
use Rattle.std.specs.declared.option.Option.{Option}
use Rattle.std.specs.declared.option.Option.TheVariants.{None, Some}
use Rattle.tm_base.specs.contracts.message.RosterEntry as entry
use Rattle.tm_base.specs.declared.message.RosterEntry.{RosterEntry}
use Rattle.tm_base.specs.declared.message.WriterState.{WriterState}
use Rattle.tm_base.specs.declared.message.WriterState.TheVariants as told
use Rattle.page_model.specs.Versions.{Held, coded_held}
use Rattle.store_model.specs.contracts.front.Front as front
use Rattle.store_model.specs.declared.front.Front.{Front}

-- By the writer's number: what the lock manager tells of it.
abbrev pub Roster : Type 0
Roster = FinMap nat_cmp RosterEntry

-- By the writer's number: how far its log was taken.
abbrev pub Fronts : Type 0
Fronts = FinMap nat_cmp Front

pub record PageStoreState : Type 0 where
  -- which of the page stores it is, from 1, and how many there are
  pub number : ℕ
  pub stores : ℕ
  -- the greatest scalar heard
  pub scalar : ℕ
  -- the log store that is asked on the next tick, 1 to 3
  pub turn : ℕ
  -- the stamp of the last roster, and what it says
  pub roster_stamp : ℕ
  pub roster : Roster
  pub fronts : Fronts
  -- by the page's number: the records that were taken
  pub pages : Held

-- The state of a page store that has heard nothing.
abbrev pub start : ℕ → ℕ → PageStoreState
start number stores = record { number = number; stores = stores; scalar = 0; turn = 1; roster_stamp = 0; roster = empty; fronts = empty; pages = empty }

-- ---- how far a writer has come

-- The number of the group that comes next: 1 where none was taken.
abbrev pub next_after : Option Front → ℕ
next_after None = 1
next_after (Some f) = f.next

abbrev pub next_of : PageStoreState → ℕ → ℕ
next_of s writer = next_after (get s.fronts writer)

-- The stamp of the last group taken. Where none was it is the writer's start, below which it has no group.
abbrev pub stamp_or_start : RosterEntry → Option Front → ℕ
stamp_or_start e None = e.start.0
stamp_or_start e (Some f) = f.stamp.0

-- The frontier of a writer.
abbrev pub frontier_of : PageStoreState → RosterEntry → ℕ
frontier_of s e = stamp_or_start e (get s.fronts e.writer.0)

abbrev pub is_live : WriterState → Bool
is_live told.Live = true
is_live told.Closed = false
is_live told.Recovered = false

-- The writer's log has an end, and all its groups were taken.
abbrev pub is_received : PageStoreState → RosterEntry → Bool
is_received s e = not (is_live e.state) && nat_lt e.length (next_of s e.writer.0)

-- ---- whose a page is

-- The pages are dealt out to the stores in turn.
abbrev pub is_of : ℕ → ℕ → ℕ → Bool
is_of number stores page = nat_eq number (1 + page % stores)

abbrev pub is_own : PageStoreState → ℕ → Bool
is_own s page = is_of s.number s.stores page

-- ---- the state as one value

abbrev pub coded_state : Coded PageStoreState
coded_state =
    code_by (ℕ × (ℕ × (ℕ × (ℕ × (ℕ × (Roster × (Fronts × Held)))))))
    (coded× coded_ℕ (coded× coded_ℕ (coded× coded_ℕ (coded× coded_ℕ (coded× coded_ℕ (coded× (fin.code coded_ℕ entry.the_row.coded) (coded× (fin.code coded_ℕ front.the_row.coded) coded_held)))))))
    (λ s. (s.number, (s.stores, (s.scalar, (s.turn, (s.roster_stamp, (s.roster, (s.fronts, s.pages))))))))
    (λ p. record { number = p.0; stores = p.1.0; scalar = p.1.1.0; turn = p.1.1.1.0; roster_stamp = p.1.1.1.1.0; roster = p.1.1.1.1.1.0; fronts = p.1.1.1.1.1.1.0; pages = p.1.1.1.1.1.1.1 })
    (λ _. refl)
