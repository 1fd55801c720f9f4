-- The leases of a master, and what each call makes of them.
use Rattle.std.specs.Prelude.{◌≡◌, ◌≢◌, ◌<◌, ◌≤◌, ◌^◌, ℕ, Bool, true, false, ◌&&◌, nat_eq, nat_lt, nat_le}
use Rattle.std.specs.Ordering.{nat_cmp}
use Rattle.std.specs.FinMap.{FinMap, get, insert}
use Rattle.std.specs.FinMap as map
use Rattle.std.specs.Coded.{Coded, coded_ℕ}
use Rattle.std.specs.declared.option.Option.{Option}
use Rattle.std.specs.declared.option.Option.TheVariants.{None, Some}
use Rattle.tm_data.specs.declared.transaction.Stamp.{Stamp}
use Rattle.tm_data.specs.declared.transaction.Page.{Page}
use Rattle.lease_desk.specs.declared.lease.Lease.{Lease}
use Rattle.lease_desk.specs.declared.lease.Lease.TheVariants as lease
use Rattle.lease_desk.specs.declared.lease.PageLease.{PageLease}
use Rattle.lease_desk.specs.contracts.lease.PageLease as kept

-- What is kept of each page that was ever granted here.
abbrev pub Leases : Type 0
Leases = FinMap nat_cmp PageLease

abbrev pub coded_leases : Coded Leases
coded_leases = map.code coded_ℕ kept.the_row.coded

-- Each page of which anything is kept has a number of 32 bits.
abbrev pub PagesFit : Leases → Type 0
PagesFit m = (page : ℕ) → 2 ^ 32 ≤ page → get m page ≡ None

-- A page that was never granted here.
abbrev pub unseen : PageLease
unseen = record { epoch = 0; state = lease.None; stamp = record { 0 = 0 } }

abbrev pub or_unseen : Option PageLease → PageLease
or_unseen None = unseen
or_unseen (Some l) = l

-- What is kept of a page.
abbrev pub lease_of : Leases → ℕ → PageLease
lease_of m page = or_unseen (get m page)

abbrev pub is_held : Lease → Bool
is_held lease.Held = true
is_held other = false

abbrev pub is_recalled : Lease → Bool
is_recalled lease.Recalled = true
is_recalled other = false

abbrev pub is_releasing : Lease → Bool
is_releasing lease.Releasing = true
is_releasing other = false

-- The leases with another one of a page, where the test passes.
abbrev pub set_if : Leases → ℕ → PageLease → Bool → Leases
set_if m page l true = insert m page l
set_if m page l false = m

-- A grant counts where its epoch is above every epoch that was seen here for the page: the page is held.
abbrev pub granted : Leases → ℕ → ℕ → Stamp → Leases
granted m page epoch stamp = set_if m page (record { epoch = epoch; state = lease.Held; stamp = stamp }) (nat_lt (lease_of m page).epoch epoch)

-- A page that is held at the epoch is recalled.
abbrev pub recalled_from : Leases → ℕ → ℕ → Option PageLease → Leases
recalled_from m page epoch None = m
recalled_from m page epoch (Some l) = set_if m page (record l { state = lease.Recalled }) (is_held l.state && nat_eq l.epoch epoch)

abbrev pub recalled : Leases → ℕ → ℕ → Leases
recalled m page epoch = recalled_from m page epoch (get m page)

-- A page that is held has a change at the stamp.
abbrev pub changed_from : Leases → ℕ → Stamp → Option PageLease → Leases
changed_from m page stamp None = m
changed_from m page stamp (Some l) = set_if m page (record l { stamp = stamp }) (is_held l.state)

abbrev pub changed : Leases → ℕ → Stamp → Leases
changed m page stamp = changed_from m page stamp (get m page)

-- A page may go: it is recalled, and its last change is durable.
abbrev pub is_ready : PageLease → ℕ → Bool
is_ready l durable = is_recalled l.state && nat_le l.stamp.0 durable

-- A page that is recalled is given back.
abbrev pub releasing_from : Leases → ℕ → Option PageLease → Leases
releasing_from m page None = m
releasing_from m page (Some l) = set_if m page (record l { state = lease.Releasing }) (is_recalled l.state)

abbrev pub releasing : Leases → ℕ → Leases
releasing m page = releasing_from m page (get m page)

-- The lease of a page that is given back at the epoch is over.
abbrev pub released_from : Leases → ℕ → ℕ → Option PageLease → Leases
released_from m page epoch None = m
released_from m page epoch (Some l) = set_if m page (record l { state = lease.None }) (is_releasing l.state && nat_eq l.epoch epoch)

abbrev pub released : Leases → ℕ → ℕ → Leases
released m page epoch = released_from m page epoch (get m page)

-- What was kept of a page, if anything was, is kept of it again.
abbrev pub restored : Leases → ℕ → Option PageLease → Leases
restored m page None = map.remove m page
restored m page (Some l) = insert m page l

-- The least page above `after` whose lease is in the state, or none up to 2^32 - 1.
abbrev pub IsNext : Leases → Lease → ℕ → Option Page → Type 0
IsNext m state after None = (page : ℕ) → after < page → page < 2 ^ 32 → (lease_of m page).state ≢ state
IsNext m state after (Some page) =
    (after < page.0) × ((lease_of m page.0).state ≡ state) × ((other : ℕ) → after < other → other < page.0 → (lease_of m other).state ≢ state)
