-- What a step that makes more durable is made of: the pages by the state of their leases, the transactions that end, and
-- the pages that go.
use Rattle.std.specs.Prelude.{ℕ, Bool, true, false, cond, not, nat_eq, nat_le, List, [], ◌∷◌, map}
use Rattle.std.specs.List.{filter}
use Rattle.std.specs.Ordering.{nat_cmp}
use Rattle.std.specs.FinMap.{FinMap}
use Rattle.std.specs.FinMap as fin
use Rattle.std.specs.declared.option.Option.{Option}
use Rattle.std.specs.declared.option.Option.TheVariants.{None, Some}
use Rattle.tm_data.specs.declared.log.Group.{Group}
use Rattle.tm_data.specs.declared.transaction.Page.{Page}
use Rattle.tm_data.specs.declared.transaction.Txn.{Txn}
use Rattle.tm_base.specs.declared.message.Message.{Message}
use Rattle.page_model.specs.Pool.{Pool, pool, without}
use Rattle.log_writer.specs.Log.{let_go}
use Rattle.lease_desk.specs.declared.lease.Lease.{Lease}
use Rattle.lease_desk.specs.declared.lease.Lease.TheVariants as lease
use Rattle.lease_desk.specs.declared.lease.PageLease.{PageLease}
use Rattle.lease_desk.specs.Desk.{Leases, is_held, is_ready, is_recalled, is_releasing, lease_of, releasing}
use Rattle.lock_table.specs.Tags.{Tags, same_txn, without_page, without_txn}
use Rattle.master_model.specs.declared.left.Left.{Left}
use Rattle.master_model.specs.State.{Work, settled}
use Rattle.master_model.specs.Acks.{ends_in}
use Rattle.master_model.specs.Leases.{left_of, release}
use Rattle.master_acks.specs.declared.leaving.Leaving.{Leaving}

-- ---- pages by the state of their leases

abbrev pub is_in : Lease → Lease → Bool
is_in lease.None l = false
is_in lease.Held l = is_held l
is_in lease.Recalled l = is_recalled l
is_in lease.Releasing l = is_releasing l

-- A state of a page that is leased.
abbrev pub has_lease : Lease → Bool
has_lease lease.None = false
has_lease other = true

-- The pages from a number on whose leases are in a state.
abbrev pub pages_from : (Lease → Bool) → ℕ → List (ℕ × PageLease) → List ℕ
pages_from is least [] = []
pages_from is least (e ∷ es) = cond (nat_le least e.0) (cond (is e.1.state) (e.0 ∷ pages_from is least es) (pages_from is least es)) (pages_from is least es)

-- ---- transactions that end

abbrev pub txns : List (Txn × Bool) → List Txn
txns ends = map (λ e. e.0) ends

-- Those that end in a group, if there is one.
abbrev pub ended_of : Option Group → List Txn
ended_of None = []
ended_of (Some g) = txns (ends_in g.records)

abbrev pub has_ended_in : List Txn → Txn → Bool
has_ended_in [] t = false
has_ended_in (x ∷ xs) t = cond (same_txn t x) true (has_ended_in xs t)

abbrev pub without_each : Tags → List Txn → Tags
without_each tags [] = tags
without_each tags (t ∷ ts) = without_each (without_txn tags t) ts

-- The state without the tags of some transactions.
abbrev pub ended_off : Work → List Txn → Work
ended_off w ts = record w { tags = without_each w.tags ts }

-- ---- pages that go

-- Of several pages those that may go, with what is told of each.
abbrev pub planned_if : Work → ℕ → Bool → List Leaving → List Leaving
planned_if w page true rest = record { page = page; left = left_of w page } ∷ rest
planned_if w page false rest = rest

abbrev pub planned : Work → List ℕ → List Leaving
planned w [] = []
planned w (p ∷ ps) = planned_if w p (is_ready (lease_of w.leases p) (settled w)) (planned w ps)

abbrev pub goes_with : Work → Leaving → Message
goes_with w l = release w l.page l.left

-- What becomes of each part of the state when they go, one after another.
abbrev pub released_each : Leases → List Leaving → Leases
released_each m [] = m
released_each m (l ∷ ls) = released_each (releasing m l.page) ls

abbrev pub left_each : FinMap nat_cmp Left → List Leaving → FinMap nat_cmp Left
left_each m [] = m
left_each m (l ∷ ls) = left_each (fin.insert m l.page l.left) ls

abbrev pub cleared_each : Pool → List Leaving → Pool
cleared_each p [] = p
cleared_each p (l ∷ ls) = cleared_each (pool (without l.page p.images) p.places) ls

abbrev pub cut_each : Tags → List Leaving → Tags
cut_each tags [] = tags
cut_each tags (l ∷ ls) = cut_each (without_page tags l.page) ls

abbrev pub drawn_each : List Page → List Leaving → List Page
drawn_each stock [] = stock
drawn_each stock (l ∷ ls) = drawn_each (filter (λ p. not (nat_eq p.0 l.page)) stock) ls

-- The state when they have gone, and the durable groups too.
abbrev pub gone_with : Work → List Leaving → Work
gone_with w ls = record w {
  log = let_go w.log;
  leases = released_each w.leases ls;
  left = left_each w.left ls;
  pool = cleared_each w.pool ls;
  tags = cut_each w.tags ls;
  stock = drawn_each w.stock ls;
}
