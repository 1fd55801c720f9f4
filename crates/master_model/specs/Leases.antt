-- What a master does when pages come and go: grants, fresh pages, images, recalls and releases.
use Rattle.std.specs.Prelude.{ℕ, ◌+◌, Bool, true, false, cond, not, ◌&&◌, nat_eq, nat_lt, List, [], ◌∷◌, ◌++◌}
use Rattle.std.specs.List.{filter}
use Rattle.std.specs.FinMap as fin
use Rattle.std.specs.declared.option.Option.{Option}
use Rattle.std.specs.declared.option.Option.TheVariants.{None, Some}
use Rattle.tm_data.specs.declared.image.Image.{Image}
use Rattle.tm_data.specs.declared.transaction.Page.{Page}
use Rattle.tm_data.specs.declared.transaction.Stamp.{Stamp}
use Rattle.tm_data.specs.declared.vector.VectorEntry.{VectorEntry}
use Rattle.tm_base.specs.declared.message.Message.{Message}
use Rattle.tm_base.specs.declared.message.Note.TheVariants as note
use Rattle.tm_base.specs.declared.message.Tag.{Tag}
use Rattle.page_model.specs.Effects.{initial}
use Rattle.page_model.specs.Pool.{image_of, put_in, without}
use Rattle.page_model.specs.Tiling.{blank_page}
use Rattle.vs_clock.specs.State.{heard_scalar, heard_vector}
use Rattle.lease_desk.specs.declared.lease.Lease.{Lease}
use Rattle.lease_desk.specs.declared.lease.Lease.TheVariants as lease
use Rattle.lease_desk.specs.declared.lease.PageLease.{PageLease}
use Rattle.lease_desk.specs.Desk.{granted, is_held, is_ready, is_recalled, is_releasing, lease_of, recalled, released, releasing}
use Rattle.lock_table.specs.Tags.{tags_on, with_tags, without_page}
use Rattle.master_model.specs.declared.left.Left.{Left}
use Rattle.master_model.specs.State.{Work, Effect, ignored, page_named, settled, to_locks, vector_of}
use Rattle.master_model.specs.Fates.{is_ended, is_own}
use Rattle.master_model.specs.Paths.{read_page}

-- ---- images

-- An image comes into the pool unless all places are taken by images that aren't durable.
abbrev pub with_images : Work → Option (List Image) → Work
with_images w None = w
with_images w (Some images) = record w { pool = record w.pool { images = images } }

abbrev pub with_image : Work → Image → Work
with_image w image = with_images w (put_in w.pool image (settled w))

-- ---- a grant

-- Of the tags that come with a page, those of transactions that are known to have ended are dropped.
abbrev pub binding : Work → List Tag → List Tag
binding w tags = filter (λ t. not (is_ended w t.txn)) tags

-- The first version of a page is known; of any other one the image is asked for.
abbrev pub gets_image : Work → Page → Bool → Effect
gets_image w page true = (with_image w (initial page), [])
gets_image w page false = (w, read_page w page ∷ [])

-- The lease of a page comes with its stamp, its tags, and what whoever had it before knew.
abbrev pub takes_page : Work → Page → ℕ → Stamp → List Tag → List VectorEntry → Work
takes_page w page epoch stamp tags vector = record w {
  leases = granted w.leases page.0 epoch stamp;
  left = fin.remove w.left page.0;
  tags = with_tags w.tags page.0 (binding w tags);
  clock = heard_vector (heard_scalar w.clock stamp.0) vector;
}

-- A grant counts where its epoch is above all that were seen here for the page.
abbrev pub on_grant_if : Work → Page → ℕ → Stamp → List Tag → List VectorEntry → Bool → Effect
on_grant_if w page epoch stamp tags vector false = ignored w
on_grant_if w page epoch stamp tags vector true =
    gets_image (takes_page w page epoch stamp tags vector) page (nat_eq stamp.0 0)

abbrev pub on_grant : Work → Page → ℕ → Stamp → List Tag → List VectorEntry → Effect
on_grant w page epoch stamp tags vector =
    on_grant_if w page epoch stamp tags vector (nat_lt (lease_of w.leases page.0).epoch epoch)

-- ---- a fresh page

-- A page that no table uses, of which nothing was seen here, is held at epoch 1.
abbrev pub takes_fresh : Work → Page → Work
takes_fresh w page = with_image (record w {
  leases = granted w.leases page.0 1 (record { 0 = 0 });
  stock = w.stock ++ page ∷ [];
  fresh = w.fresh + 1;
  spent = false;
}) (blank_page page)

abbrev pub with_fresh_if : Work → Page → Bool → Work
with_fresh_if w page true = takes_fresh w page
with_fresh_if w page false = w

abbrev pub with_fresh : Work → Option Page → Work
with_fresh w None = record w { fresh = w.fresh + 1; spent = true }
with_fresh w (Some page) = with_fresh_if w page (nat_lt 1024 page.0 && nat_eq (lease_of w.leases page.0).epoch 0)

-- Only the answer to the next request counts.
abbrev pub on_fresh_if : Work → Option Page → Bool → Effect
on_fresh_if w page true = (with_fresh w page, [])
on_fresh_if w page false = ignored w

abbrev pub on_fresh : Work → ℕ → Option Page → Effect
on_fresh w nth page = on_fresh_if w page (nat_eq nth (w.fresh + 1))

-- ---- an image that was asked for

-- It counts where the page is held, has no image here, and the image is that of the page's last change.
abbrev pub is_wanted : Work → Image → Option Image → Bool
is_wanted w image (Some old) = false
is_wanted w image None =
    is_held (lease_of w.leases image.page.0).state && nat_eq image.stamp.0 (lease_of w.leases image.page.0).stamp.0

abbrev pub on_page_if : Work → Image → Bool → Effect
on_page_if w image true = (with_image w image, [])
on_page_if w image false = ignored w

abbrev pub on_page : Work → Image → Effect
on_page w image = on_page_if w image (is_wanted w image (image_of image.page.0 w.pool.images))

-- ---- a page is given back

-- What is told of it: its stamp, its tags but those of own transactions that have ended, and what is known here.
abbrev pub left_of : Work → ℕ → Left
left_of w page = record {
  epoch = (lease_of w.leases page).epoch;
  stamp = (lease_of w.leases page).stamp;
  tags = filter (λ t. not (is_own w t.txn && is_ended w t.txn)) (tags_on w.tags page);
  vector = vector_of w;
}

-- The same is told however often it is sent.
abbrev pub release : Work → ℕ → Left → Message
release w page l = to_locks w (note.Release w.log.writer (page_named page) l.epoch l.stamp l.tags l.vector)

-- The page leaves the pool, the lock table and the stock.
abbrev pub gives_back : Work → ℕ → Work
gives_back w page = record w {
  leases = releasing w.leases page;
  left = fin.insert w.left page (left_of w page);
  pool = record w.pool { images = without page w.pool.images };
  tags = without_page w.tags page;
  stock = filter (λ p. not (nat_eq p.0 page)) w.stock;
}

abbrev pub releases : Work → ℕ → Effect
releases w page = (gives_back w page, release w page (left_of w page) ∷ [])

-- A page that may go goes.
abbrev pub releases_if : Work → ℕ → Bool → Effect
releases_if w page true = releases w page
releases_if w page false = ignored w

abbrev pub releases_ready : Work → ℕ → Effect
releases_ready w page = releases_if w page (is_ready (lease_of w.leases page) (settled w))

-- Of several pages, each one that may go, in turn.
abbrev pub then_releases : Effect → (Work → Effect) → Effect
then_releases (w, messages) others = let (new, more) = others w in (new, messages ++ more)

abbrev pub releases_all : List ℕ → Work → Effect
releases_all [] w = ignored w
releases_all (p ∷ ps) w = then_releases (releases_ready w p) (releases_all ps)

-- The pages whose leases are in a state, ascending.
abbrev pub pages_in : (Lease → Bool) → List (ℕ × PageLease) → List ℕ
pages_in is [] = []
pages_in is (e ∷ es) = cond (is e.1.state) (e.0 ∷ pages_in is es) (pages_in is es)

abbrev pub recalled_pages : Work → List ℕ
recalled_pages w = pages_in is_recalled (fin.entries w.leases)

abbrev pub releasing_pages : Work → List ℕ
releasing_pages w = pages_in is_releasing (fin.entries w.leases)

-- ---- a recall

-- What was told of a page that is being given back is sent once more.
abbrev pub again : Work → ℕ → Option Left → List Message
again w page None = []
again w page (Some l) = release w page l ∷ []

-- By the lease's state, where the epoch is that of the lease. A page that is recalled already isn't looked at again
-- before something more is durable.
abbrev pub on_recall_in : Work → ℕ → ℕ → Lease → Effect
on_recall_in w page epoch lease.Held = releases_ready (record w { leases = recalled w.leases page epoch }) page
on_recall_in w page epoch lease.Releasing = (w, again w page (fin.get w.left page))
on_recall_in w page epoch other = ignored w

abbrev pub on_recall_if : Work → ℕ → ℕ → Bool → Effect
on_recall_if w page epoch true = on_recall_in w page epoch (lease_of w.leases page).state
on_recall_if w page epoch false = ignored w

abbrev pub on_recall : Work → ℕ → ℕ → Effect
on_recall w page epoch = on_recall_if w page epoch (nat_eq (lease_of w.leases page).epoch epoch)

-- ---- a release is acknowledged

abbrev pub on_released_if : Work → ℕ → ℕ → Bool → Effect
on_released_if w page epoch true = (record w { leases = released w.leases page epoch; left = fin.remove w.left page }, [])
on_released_if w page epoch false = ignored w

abbrev pub on_released : Work → ℕ → ℕ → Effect
on_released w page epoch =
    on_released_if w page epoch (is_releasing (lease_of w.leases page).state && nat_eq (lease_of w.leases page).epoch epoch)
