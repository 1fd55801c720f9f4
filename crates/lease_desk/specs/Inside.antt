-- The pages by the state of their leases, as numbers in ascending order.
use Rattle.std.specs.Prelude.{◌≡◌, ◌<◌, ◌≤◌, ◌+◌, ◌*◌, ◌^◌, ℕ, List, [], ◌∷◌, length, get_or, Bool, true, false, cond, nat_eq}
use Rattle.std.specs.declared.option.Option.{Option}
use Rattle.std.specs.declared.option.Option.TheVariants.{None, Some}
use Rattle.tm_data.specs.declared.transaction.Page.{Page}
use Rattle.lease_desk.specs.declared.lease.Lease.{Lease}
use Rattle.lease_desk.specs.declared.lease.Lease.TheVariants as lease
use Rattle.lease_desk.specs.Desk.{Leases, lease_of}

-- Whether a number is among them.
abbrev pub is_in : List ℕ → ℕ → Bool
is_in [] k = false
is_in (x ∷ xs) k = cond (nat_eq k x) true (is_in xs k)

-- They rise strictly, each above `low`.
abbrev pub RisingFrom : ℕ → List ℕ → Type 0
RisingFrom low [] = Unit {0}
RisingFrom low (x ∷ xs) = (low ≤ x) × RisingFrom (x + 1) xs

abbrev pub Rising : List ℕ → Type 0
Rising xs = RisingFrom 0 xs

-- Where the numbers from `least` on begin.
pub record IsPlace (xs : List ℕ) (least place : ℕ) : Type 0 where
  pub within : place ≤ length xs
  pub before : (k : ℕ) → k < place → get_or xs k 0 < least
  pub behind : (k : ℕ) → place ≤ k → k < length xs → least ≤ get_or xs k 0

-- Numbers, and for how many there is room.
pub record Slots : Type 0 where
  pub numbers : List ℕ
  pub room : ℕ

-- The number of a page among those that are going, by the rank of its lease's state.
abbrev pub key : ℕ → ℕ → ℕ
key rank page = rank * 2 ^ 32 + page

-- The rank of a state: 0 held, 1 recalled, 2 releasing.
abbrev pub has_rank : Lease → ℕ → Bool
has_rank lease.None rank = false
has_rank lease.Held rank = nat_eq rank 0
has_rank lease.Recalled rank = nat_eq rank 1
has_rank lease.Releasing rank = nat_eq rank 2

-- Whether a page is among those of a rank: the held ones stand apart from those that are going.
abbrev pub is_ranked : List ℕ → List ℕ → ℕ → ℕ → Bool
is_ranked held going rank page = cond (nat_eq rank 0) (is_in held page) (is_in going (key rank page))

-- A page is among those of a state exactly where its lease is in it.
abbrev pub IsIndexed : Leases → List ℕ → List ℕ → Type 0
IsIndexed m held going = (rank page : ℕ) → rank < 3 → page < 2 ^ 32 → is_ranked held going rank page ≡ has_rank (lease_of m page).state rank

-- Every held page has room among those that are going, too.
abbrev pub HasRoom : List ℕ → Slots → Type 0
HasRoom held going = length held + length going.numbers ≤ going.room

-- The least page above `after` whose lease is in the state of a rank, or none up to 2^32 - 1.
abbrev pub IsNextRanked : Leases → ℕ → ℕ → Option Page → Type 0
IsNextRanked m rank after None = (page : ℕ) → after < page → page < 2 ^ 32 → has_rank (lease_of m page).state rank ≡ false
IsNextRanked m rank after (Some page) =
    (after < page.0) × (has_rank (lease_of m page.0).state rank ≡ true) × ((other : ℕ) → after < other → other < page.0 → has_rank (lease_of m other).state rank ≡ false)
