-- The recalled pages that go, one after another.
use Rattle.std.proofs.Common.{◌≡◌, ◌<◌, ◌≤◌, ◌+◌, ℕ, Bool, true, false, List, [], ◌∷◌, ◌++◌, Option, Some, None, refl, ap, sym, ◌∙◌, cond, map, arith, nat_eq}
use Rattle.std.specs.Prelude.{filter, not}
use Rattle.std.specs.Ordering.{nat_cmp}
use Rattle.std.specs.FinMap.{FinMap, gets}
use Rattle.std.specs.FinMap as fin
use Rattle.std.proofs.lemmas.Bool.Decides.{nat_tests}
use Rattle.tm_data.specs.declared.transaction.Page.{Page}
use Rattle.tm_base.specs.declared.message.Message.{Message}
use Rattle.page_model.specs.Pool.{Pool, pool, without}
use Rattle.lease_desk.specs.declared.lease.Lease.{Lease}
use Rattle.lease_desk.specs.declared.lease.PageLease.{PageLease}
use Rattle.lease_desk.specs.Desk.{Leases, is_ready, lease_of, releasing, releasing_from, set_if}
use Rattle.lock_table.specs.Tags.{Tags, tags_on, without_page}
use Rattle.master_model.specs.declared.left.Left.{Left}
use Rattle.master_model.specs.State.{Effect, Work, settled, vector_of}
use Rattle.master_model.specs.Leases.{left_of, pages_in, release, releases_all, releases_if, then_releases}
use Rattle.master_acks.specs.declared.leaving.Leaving.{Leaving}
use Rattle.master_acks.specs.Inside.{cleared_each, cut_each, drawn_each, goes_with, left_each, planned, planned_if, released_each}
use Rattle.master_acks.proofs.TagLemmas.{binds, other_page}
use Rattle.master_acks.proofs.WalkLemmas.{Rises, entries_rise}

-- ---- pages rise

abbrev pub PagesRise : ℕ → List ℕ → Type 0
PagesRise low [] = Unit {0}
PagesRise low (p ∷ ps) = (low ≤ p) × PagesRise (p + 1) ps

lower : (a b : ℕ) (ps : List ℕ) → a ≤ b → PagesRise b ps → PagesRise a ps
lower a b [] less r = tt
lower a b (p ∷ ps) less r = (omega (arith, less, r.0), r.1)

pages_rise : (is : Lease → Bool) (es : List (ℕ × PageLease)) (low : ℕ) → Rises low es → PagesRise low (pages_in is es)
pages_rise is [] low r = tt
pages_rise is (e ∷ es) low r = by (is e.1.state) (pages_rise is es (e.0 + 1) r.1)
  where
    by : (b : Bool) → PagesRise (e.0 + 1) (pages_in is es) → PagesRise low (cond b (e.0 ∷ pages_in is es) (pages_in is es))
    by true rest = (r.0, rest)
    by false rest = lower low (e.0 + 1) (pages_in is es) (omega (arith, r.0)) rest

pub leases_rise : (is : Lease → Bool) (m : Leases) → PagesRise 0 (pages_in is (fin.entries m))
leases_rise is m = pages_rise is (fin.entries m) 0 (entries_rise m)

-- ---- another page's lease stays

set_other : (m : Leases) (page q : ℕ) (l : PageLease) → (q ≡ page → ⊥) → lease_of (fin.insert m page l) q ≡ lease_of m q
set_other m page q l other = grind (arith, nat_tests, gets)

set_if_other : (m : Leases) (page q : ℕ) (l : PageLease) (b : Bool) → (q ≡ page → ⊥) → lease_of (set_if m page l b) q ≡ lease_of m q
set_if_other m page q l true other = set_other m page q l other
set_if_other m page q l false other = refl

releasing_by : (m : Leases) (page q : ℕ) (o : Option PageLease) → (q ≡ page → ⊥) → lease_of (releasing_from m page o) q ≡ lease_of m q
releasing_by m page q None other = refl
releasing_by m page q (Some l) other = set_if_other m page q _ _ other

releasing_other : (m : Leases) (page q : ℕ) → (q ≡ page → ⊥) → lease_of (releasing m page) q ≡ lease_of m q
releasing_other m page q other = releasing_by m page q (fin.get m page) other

-- ---- one after another

module _ (w : Work) where
  -- The state with other parts.
  abbrev with : Leases → FinMap nat_cmp Left → Pool → Tags → List Page → Work
  with a b c d e = record w { leases = a; left = b; pool = c; tags = d; stock = e }

  abbrev went : List Leaving → Leases → FinMap nat_cmp Left → Pool → Tags → List Page → Effect
  went ls a b c d e = (with (released_each a ls) (left_each b ls) (cleared_each c ls) (cut_each d ls) (drawn_each e ls), map (goes_with w) ls)

  -- Of the pages from a number on leases and tags are as they were.
  abbrev Still : ℕ → Leases → Tags → Type 0
  Still low a d = (q : ℕ) → low ≤ q → (lease_of a q ≡ lease_of w.leases q) × (tags_on d q ≡ tags_on w.tags q)

  above : (p q : ℕ) → p + 1 ≤ q → q ≡ p → ⊥
  above p q up same = omega (arith, up, same)

  still : (low p : ℕ) (a : Leases) (d : Tags) → low ≤ p → Still low a d → Still (p + 1) (releasing a p) (without_page d p)
  still low p a d up s q high =
      let was = s q (omega (arith, up, high)) in (releasing_other a p q (above p q high) ∙ was.0, other_page d p q (above p q high) ∙ was.1)

  later : (low p : ℕ) (a : Leases) (d : Tags) → low ≤ p → Still low a d → Still (p + 1) a d
  later low p a d up s q high = s q (omega (arith, up, high))

  same_left : (p : ℕ) (a : Leases) (b : FinMap nat_cmp Left) (c : Pool) (d : Tags) (e : List Page) → lease_of a p ≡ lease_of w.leases p → tags_on d p ≡ tags_on w.tags p → left_of (with a b c d e) p ≡ left_of w p
  same_left p a b c d e one two = λ i. record { epoch = (one i).epoch; stamp = (one i).stamp; tags = filter (binds w) (two i); vector = vector_of w }

  pub along : (ps : List ℕ) (low : ℕ) (a : Leases) (b : FinMap nat_cmp Left) (c : Pool) (d : Tags) (e : List Page) → PagesRise low ps → Still low a d → releases_all ps (with a b c d e) ≡ went (planned w ps) a b c d e
  along [] low a b c d e r s = refl
  along (p ∷ ps) low a b c d e r s =
      ap (λ (l : PageLease). then_releases (releases_if (with a b c d e) p (is_ready l (settled w))) (releases_all ps)) (s p r.0).0
      ∙ by (is_ready (lease_of w.leases p) (settled w)) (along ps (p + 1) a b c d e r.1 (later low p a d r.0 s))
      (along ps (p + 1) (releasing a p) (fin.insert b p (left_of w p)) (pool (without p c.images) c.places) (without_page d p) (filter (λ x. not (nat_eq x.0 p)) e) r.1 (still low p a d r.0 s))
    where
      -- by what is told of the page
      gone : Left → Work
      gone l = with (releasing a p) (fin.insert b p l) (pool (without p c.images) c.places) (without_page d p) (filter (λ x. not (nat_eq x.0 p)) e)

      goes : Left → Effect
      goes l = then_releases (gone l, release w p l ∷ []) (releases_all ps)

      by : (x : Bool) → releases_all ps (with a b c d e) ≡ went (planned w ps) a b c d e
          → releases_all ps (gone (left_of w p))
          ≡ went (planned w ps) (releasing a p) (fin.insert b p (left_of w p)) (pool (without p c.images) c.places) (without_page d p) (filter (λ x. not (nat_eq x.0 p)) e)
          → then_releases (releases_if (with a b c d e) p x) (releases_all ps) ≡ went (planned_if w p x (planned w ps)) a b c d e
      by false stays goes_on = stays
      by true stays goes_on = ap goes (same_left p a b c d e (s p r.0).0 (s p r.0).1) ∙ ap (λ (x : Effect). (x.0, release w p (left_of w p) ∷ x.1)) goes_on

  -- All pages of a list that rises.
  pub all_gone : (ps : List ℕ) → PagesRise 0 ps → releases_all ps w ≡ went (planned w ps) w.leases w.left w.pool w.tags w.stock
  all_gone ps r = along ps 0 w.leases w.left w.pool w.tags w.stock r (λ q high. (refl, refl))
