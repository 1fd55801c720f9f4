-- What is logged: what it leaves beside the log, and the end that comes last.
use Rattle.std.proofs.Common.{◌≡◌, ◌<◌, ◌≤◌, ◌⊎◌, ◌+◌, ◌-◌, ℕ, Bool, true, false, List, [], ◌∷◌, ◌++◌, Option, Some, None, refl, ap, sym, ◌∙◌, cond, arith, inl, inr}
use Rattle.std.specs.Prelude.{nat_eq, length, slice_get}
use Rattle.std.specs.List.{prefix_len}
use Rattle.std.proofs.lemmas.Bool.Decides.{nat_tests}
use Rattle.std.proofs.lemmas.List.{length-append}
use Rattle.tm_data.specs.declared.image.Image.{Image}
use Rattle.tm_data.specs.declared.log.Group.{Group}
use Rattle.tm_data.specs.declared.log.Record.{Record}
use Rattle.tm_data.specs.declared.transaction.Page.{Page}
use Rattle.tm_data.specs.declared.transaction.Txn.{Txn}
use Rattle.page_model.specs.Effects.{page_of}
use Rattle.page_model.specs.Pool.{image_of}
use Rattle.page_model.specs.Splits.{images_on, with_image}
use Rattle.page_model.specs.Tree.{Images}
use Rattle.vs_clock.specs.State.{told, ticked}
use Rattle.log_writer.specs.declared.logged.Logged.{Logged}
use Rattle.log_writer.specs.Acks.{has_all}
use Rattle.log_writer.specs.Log.{Log, appended, durable_seq, last_seq, unacknowledged}
use Rattle.log_writer.proofs.OrderLemmas.{durable_appended}
use Rattle.lease_desk.specs.Desk.{is_held, lease_of}
use Rattle.master_model.specs.State.{Work}
use Rattle.master_model.specs.Paths as paths
use Rattle.master_model.specs.Paths.{here, last_of}
use Rattle.master_model.specs.Logging.{logs, next_group, with_change, with_changes, with_group}
use Rattle.master_model.specs.Ends.{end_of}
use Rattle.master_model.specs.Facts.{HasEndAt}

-- ---- what it leaves

pub change_front : (w : Work) (r : Record) (stamp : ℕ) (o : Option ℕ) → ((with_change w r stamp o).log ≡ w.log) × ((with_change w r stamp o).clock ≡ w.clock)
change_front w r stamp None = (refl, refl)
change_front w r stamp (Some page) = (refl, refl)

pub changes_front : (w : Work) (rs : List Record) (stamp : ℕ) → ((with_changes w rs stamp).log ≡ w.log) × ((with_changes w rs stamp).clock ≡ w.clock)
changes_front w [] stamp = (refl, refl)
changes_front w (r ∷ rs) stamp =
    let one = change_front w r stamp (page_of r) in
    let rest = changes_front (with_change w r stamp (page_of r)) rs stamp in (rest.0 ∙ one.0, rest.1 ∙ one.1)

-- The sessions, and the fresh pages.
abbrev Beside : Work → Work → Type 0
Beside a b = (b.sessions ≡ a.sessions) × (b.stock ≡ a.stock)

change_beside : (w : Work) (r : Record) (stamp : ℕ) (o : Option ℕ) → Beside w (with_change w r stamp o)
change_beside w r stamp None = (refl, refl)
change_beside w r stamp (Some page) = (refl, refl)

changes_beside : (w : Work) (rs : List Record) (stamp : ℕ) → Beside w (with_changes w rs stamp)
changes_beside w [] stamp = (refl, refl)
changes_beside w (r ∷ rs) stamp =
    let one = change_beside w r stamp (page_of r) in
    let rest = changes_beside (with_change w r stamp (page_of r)) rs stamp in (rest.0 ∙ one.0, rest.1 ∙ one.1)

pub logs_beside : (w : Work) (groups : List (List Record)) → Beside w (logs w groups).work
logs_beside w [] = (refl, refl)
logs_beside w (r ∷ rs) =
    let g : Group = next_group w r in
    let one = changes_beside (record w { clock = told (ticked w.clock); log = appended w.log g }) g.records g.stamp.0 in
    let rest = logs_beside (with_group w g) rs in (rest.0 ∙ one.0, rest.1 ∙ one.1)

pub logs_writer : (w : Work) (groups : List (List Record)) → (logs w groups).work.log.writer ≡ w.log.writer
logs_writer w [] = refl
logs_writer w (r ∷ rs) =
    let g : Group = next_group w r in
    let same = (changes_front (record w { clock = told (ticked w.clock); log = appended w.log g }) g.records g.stamp.0).0 in logs_writer (with_group w g) rs ∙ ap (λ (l : Log). l.writer) same

-- ---- the last group

pub last_appended : (log : Log) (g : Group) → last_seq (appended log g) ≡ last_seq log + 1
last_appended log g = omega (arith, length-append log.groups (unacknowledged g ∷ []))

prefix_short : (p : Logged → Bool) (ls : List Logged) → prefix_len p ls ≤ length ls
prefix_short p [] = omega arith
prefix_short p (l ∷ ls) = by (p l) (prefix_short p ls)
  where
    by : (b : Bool) → prefix_len p ls ≤ length ls → cond b (1 + prefix_len p ls) 0 ≤ length (l ∷ ls)
    by true h = omega (arith, h)
    by false h = omega arith

-- No more is durable than was logged.
pub durable_most : (log : Log) → durable_seq log ≤ last_seq log
durable_most log = omega (arith, prefix_short (λ l. has_all l.acks) log.groups)

-- One more group isn't durable yet.
pub isnt_durable : (log : Log) (g : Group) → durable_seq (appended log g) < last_seq log + 1
isnt_durable log g = omega (arith, durable_appended log g, durable_most log)

pub last_there : (groups : List Group) (last : Group) → slice_get (groups ++ last ∷ []) (length groups) ≡ Some last
last_there [] last = refl
last_there (x ∷ groups) last = last_there groups last

-- An end that is logged last is there.
pub end_at : (groups : List Group) (seq : ℕ) (g : Group) (t : Txn) (committed : Bool) → seq ≡ length groups → g.records ≡ end_of t committed → HasEndAt (groups ++ g ∷ []) (seq + 1) t committed
end_at groups seq g t committed is says =
    let one : seq + 1 - 1 ≡ length groups = omega (arith, is) in
    record { group = g; from_one = omega arith; there = ap (λ (n : ℕ). slice_get (groups ++ g ∷ []) n) one ∙ last_there groups g; says = says }

-- ---- the leaf of a path

last_here : (images : Images) (path : List Page) (o : Option Image) (leaf : Image) → last_of o (images_on images path) ≡ Some leaf → (o ≡ Some leaf) ⊎ ((p : Page) × (images p.0 ≡ Some leaf))
last_here images [] o leaf is = inl is
last_here images (p ∷ ps) o leaf is = by (images p.0) refl is (last_here images ps o leaf) (λ i. last_here images ps (Some i) leaf)
  where
    next : (i : Image) → images p.0 ≡ Some i → (Some i ≡ Some leaf) ⊎ ((q : Page) × (images q.0 ≡ Some leaf)) → (o ≡ Some leaf) ⊎ ((q : Page) × (images q.0 ≡ Some leaf))
    next i at (inl same) = inr (p, at ∙ same)
    next i at (inr found) = inr found

    by : (x : Option Image) → images p.0 ≡ x → last_of o (with_image x (images_on images ps)) ≡ Some leaf → (last_of o (images_on images ps) ≡ Some leaf → (o ≡ Some leaf) ⊎ ((q : Page) × (images q.0 ≡ Some leaf)))
        → ((i : Image) → last_of (Some i) (images_on images ps) ≡ Some leaf → (Some i ≡ Some leaf) ⊎ ((q : Page) × (images q.0 ≡ Some leaf))) → (o ≡ Some leaf) ⊎ ((q : Page) × (images q.0 ≡ Some leaf))
    by None at k past from = past k
    by (Some i) at k past from = next i at (from i k)

pub image_page : (page : ℕ) (images : List Image) (image : Image) → image_of page images ≡ Some image → image.page.0 ≡ page
image_page page [] image is = absurd (cc is)
image_page page (i ∷ rest) image is = by (nat_eq page i.page.0) refl is (image_page page rest image)
  where
    by : (b : Bool) → nat_eq page i.page.0 ≡ b → cond b (Some i) (image_of page rest) ≡ Some image → (image_of page rest ≡ Some image → image.page.0 ≡ page) → image.page.0 ≡ page
    by true at k next = let one : i ≡ image = cc k in let same : page ≡ i.page.0 = grind (arith, nat_tests) in sym (same ∙ ap (λ (x : Image). x.page.0) one)
    by false at k next = next k

here_held : (w : Work) (page : ℕ) (image : Image) → here w page ≡ Some image → is_held (lease_of w.leases image.page.0).state ≡ true
here_held w page image is = by (is_held (lease_of w.leases page).state) refl is
  where
    by : (b : Bool) → is_held (lease_of w.leases page).state ≡ b → paths.image_if w page b ≡ Some image → is_held (lease_of w.leases image.page.0).state ≡ true
    by true held k = ap (λ (n : ℕ). is_held (lease_of w.leases n).state) (image_page page w.pool.images image k) ∙ held
    by false held k = absurd (cc k)

pub leaf_held : (w : Work) (path : List Page) (leaf : Image) → last_of None (images_on (here w) path) ≡ Some leaf → is_held (lease_of w.leases leaf.page.0).state ≡ true
leaf_held w path leaf is = by (last_here (here w) path None leaf is)
  where
    by : (None ≡ Some leaf) ⊎ ((p : Page) × (here w p.0 ≡ Some leaf)) → is_held (lease_of w.leases leaf.page.0).state ≡ true
    by (inl none) = absurd (cc none)
    by (inr found) = here_held w found.0.0 leaf found.1
