-- A held page that is asked back: it goes where its last change is durable, and waits else.
use Rattle.std.proofs.Common.{◌≡◌, ◌<◌, ◌≤◌, ℕ, Bool, true, false, List, [], ◌∷◌, ap, ◌∙◌, arith}
use Rattle.std.specs.Prelude.{nat_eq, nat_le, not}
use Rattle.std.specs.List.{filter}
use Rattle.std.specs.Ordering.{nat_cmp}
use Rattle.std.specs.FinMap.{FinMap}
use Rattle.std.specs.FinMap as fin
use Rattle.std.proofs.lemmas.Bool.Decides.{nat_tests}
use Rattle.tm_base.specs.declared.message.Message.{Message}
use Rattle.tm_data.specs.declared.transaction.Page.{Page}
use Rattle.page_model.specs.Pool.{Pool, pool, without}
use Rattle.lease_desk.specs.declared.lease.Lease.TheVariants as lease
use Rattle.lease_desk.specs.declared.lease.PageLease.{PageLease}
use Rattle.lease_desk.specs.Desk.{Leases, is_ready, lease_of, recalled, releasing}
use Rattle.lock_table.specs.Tags.{Tags, without_page}
use Rattle.master_model.specs.declared.left.Left.{Left}
use Rattle.master_model.specs.State.{Work, Effect, settled}
use Rattle.master_model.specs.Leases.{left_of, on_recall_in, release, releases_if}
use Rattle.master_leases.proofs.LeaseLemmas.{recalled_lease}

-- The state after the page is asked back.
abbrev pub asked : Work → ℕ → ℕ → Work
asked w page epoch = record w { leases = recalled w.leases page epoch }

-- The effect of giving it back, by what is told of it and the message that tells it.
abbrev pub gone_by : Work → ℕ → ℕ → Left → Message → Effect
gone_by w page epoch l said = (
  record w {
    leases = releasing (recalled w.leases page epoch) page;
    left = fin.insert w.left page l;
    pool = record w.pool { images = without page w.pool.images };
    tags = without_page w.tags page;
    stock = filter (λ p. not (nat_eq p.0 page)) w.stock;
  },
  said ∷ [],
)

abbrev pub gone_with : Work → ℕ → ℕ → Left → Effect
gone_with w page epoch l = gone_by w page epoch l (release w page l)

pub gone_is : (w : Work) (page epoch : ℕ) (l : Left) (said : Message) (ls : Leases) (lf : FinMap nat_cmp Left) (po : Pool) (ta : Tags) (st : List Page) (ms : List Message)
    → ls ≡ releasing (recalled w.leases page epoch) page → lf ≡ fin.insert w.left page l → po ≡ pool (without page w.pool.images) w.pool.places → ta ≡ without_page w.tags page
    → st ≡ filter (λ p. not (nat_eq p.0 page)) w.stock → ms ≡ said ∷ [] → (record w { leases = ls; left = lf; pool = po; tags = ta; stock = st }, ms) ≡ gone_by w page epoch l said
gone_is w page epoch l said ls lf po ta st ms a b c d e f = λ k. (record w { leases = a k; left = b k; pool = c k; tags = d k; stock = e k }, f k)

same_left : (w : Work) (page epoch : ℕ) → (lease_of w.leases page).state ≡ lease.Held → (lease_of w.leases page).epoch ≡ epoch → left_of (asked w page epoch) page ≡ left_of w page
same_left w page epoch held at =
    ap (λ (l : PageLease). record (left_of w page) { epoch = l.epoch; stamp = l.stamp }) (recalled_lease w.leases page epoch held at)

ready_if : (w : Work) (page epoch : ℕ) (b : Bool) → (lease_of w.leases page).state ≡ lease.Held → (lease_of w.leases page).epoch ≡ epoch → nat_le (lease_of w.leases page).stamp.0 (settled w) ≡ b
    → on_recall_in w page epoch lease.Held ≡ releases_if (asked w page epoch) page b
ready_if w page epoch b held at is =
    ap (λ (l : PageLease). releases_if (asked w page epoch) page (is_ready l (settled w))) (recalled_lease w.leases page epoch held at)
    ∙ ap (releases_if (asked w page epoch) page) is

pub recall_goes : (w : Work) (page epoch : ℕ) → (lease_of w.leases page).state ≡ lease.Held → (lease_of w.leases page).epoch ≡ epoch → (lease_of w.leases page).stamp.0 ≤ settled w
    → on_recall_in w page epoch lease.Held ≡ gone_with w page epoch (left_of w page)
recall_goes w page epoch held at durable =
    let is : nat_le (lease_of w.leases page).stamp.0 (settled w) ≡ true = grind (arith, nat_tests) in
    ready_if w page epoch true held at is ∙ ap (gone_with w page epoch) (same_left w page epoch held at)

pub recall_waits : (w : Work) (page epoch : ℕ) → (lease_of w.leases page).state ≡ lease.Held → (lease_of w.leases page).epoch ≡ epoch → settled w < (lease_of w.leases page).stamp.0
    → on_recall_in w page epoch lease.Held ≡ (asked w page epoch, [])
recall_waits w page epoch held at later =
    let is : nat_le (lease_of w.leases page).stamp.0 (settled w) ≡ false = grind (arith, nat_tests) in
    ready_if w page epoch false held at is
