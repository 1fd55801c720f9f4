use Rattle.std.proofs.Common.{◌-◌, ◌≡◌, ◌<◌, ◌≤◌, ℕ}
use Rattle.lease_desk.specs.Desk.{lease_of}
use Rattle.lease_desk.specs.declared.lease.Lease.TheVariants as lease
use Rattle.lease_desk.proofs.desk.Desk.next_free.Given as goal

abbrev pub invariant-loop-at : goal.invariant-loop-at
invariant-loop-at l = (l.after ≤ l.at) × ((page : ℕ) → l.after < page → page ≤ l.at → (lease_of l.self page).state ≡ lease.None → ⊥)

abbrev pub decreases-loop-at : goal.decreases-loop-at
decreases-loop-at l = 4294967295 - l.at
