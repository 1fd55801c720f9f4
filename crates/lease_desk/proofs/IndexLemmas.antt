-- The pages by the states of their leases, as a lease changes.
use Rattle.std.proofs.Common.{◌≡◌, ◌<◌, ◌≤◌, ◌^◌, ℕ, Bool, true, false, List, [], Option, Some, None, refl, ap, sym, subst, ◌∙◌, cond, arith, nat_eq}
use Rattle.std.specs.Prelude.{IsSome, OnOk}
use Rattle.std.specs.Result.{is_err}
use Rattle.std.specs.declared.result.Result.{Result}
use Rattle.std.specs.declared.result.Result.TheVariants.{Ok, Err}
use Rattle.tm_lists.specs.declared.memory.NoMemory.{NoMemory}
use Rattle.std.specs.FinMap.{get, insert, remove, gets}
use Rattle.std.proofs.lemmas.Bool.Decides.{nat_tests}
use Rattle.tm_data.specs.declared.transaction.Page.{Page}
use Rattle.lease_desk.specs.declared.lease.Lease.{Lease}
use Rattle.lease_desk.specs.declared.lease.Lease.TheVariants as lease
use Rattle.lease_desk.specs.declared.lease.PageLease.{PageLease}
use Rattle.lease_desk.specs.Desk.{Leases, lease_of, or_unseen, unseen, IsNext}
use Rattle.lease_desk.specs.Inside.{is_in, is_ranked, key, has_rank, IsIndexed, IsNextRanked}

-- ---- numbers

key_page : (r t q p : ℕ) → r < 3 → t < 3 → q < 2 ^ 32 → p < 2 ^ 32 → key r q ≡ key t p → (r ≡ t) × (q ≡ p)
key_page r t q p a b c d same = (omega (arith, a, b, c, d, same), omega (arith, a, b, c, d, same))

other_key : (r t q p : ℕ) → r < 3 → t < 3 → q < 2 ^ 32 → p < 2 ^ 32 → (q ≡ p → ⊥) → nat_eq (key r q) (key t p) ≡ false
other_key r t q p a b c d other = by (nat_eq (key r q) (key t p)) refl
  where
    by : (x : Bool) → nat_eq (key r q) (key t p) ≡ x → x ≡ false
    by true is = absurd (let same : key r q ≡ key t p = grind (arith, nat_tests) in other (key_page r t q p a b c d same).1)
    by false is = refl

same_key : (r t p : ℕ) → r < 3 → t < 3 → p < 2 ^ 32 → nat_eq (key r p) (key t p) ≡ nat_eq r t
same_key r t p a b c = by (nat_eq (key r p) (key t p)) (nat_eq r t) refl refl
  where
    by : (x y : Bool) → nat_eq (key r p) (key t p) ≡ x → nat_eq r t ≡ y → x ≡ y
    by true true is_x is_y = refl
    by true false is_x is_y = absurd (let same : key r p ≡ key t p = grind (arith, nat_tests) in let one : r ≡ t = (key_page r t p p a b c c same).0 in grind (arith, nat_tests))
    by false true is_x is_y = absurd (let one : r ≡ t = grind (arith, nat_tests) in let same : key r p ≡ key t p = ap (λ (n : ℕ). key n p) one in grind (arith, nat_tests))
    by false false is_x is_y = refl

-- ---- one lease changes

lease_here : (m : Leases) (page : ℕ) (l : PageLease) → lease_of (insert m page l) page ≡ l
lease_here m page l = grind (arith, nat_tests, gets)

lease_other : (m : Leases) (page q : ℕ) (l : PageLease) → (q ≡ page → ⊥) → lease_of (insert m page l) q ≡ lease_of m q
lease_other m page q l other = grind (arith, nat_tests, gets)

index_set : (m : Leases) (held held' going going' : List ℕ) (page : ℕ) (l : PageLease) → IsIndexed m held going → ((r : ℕ) → r < 3 → is_ranked held' going' r page ≡ has_rank l.state r)
    → ((r q : ℕ) → r < 3 → q < 2 ^ 32 → (q ≡ page → ⊥) → is_ranked held' going' r q ≡ is_ranked held going r q) → IsIndexed (insert m page l) held' going'
index_set m held held' going going' page l h here others r q rank fits = by (nat_eq q page) refl
  where
    by : (b : Bool) → nat_eq q page ≡ b → is_ranked held' going' r q ≡ has_rank (lease_of (insert m page l) q).state r
    by true is =
        let same : page ≡ q = grind (arith, nat_tests) in
        subst (λ (n : ℕ). is_ranked held' going' r n ≡ has_rank (lease_of (insert m page l) n).state r) same (here r rank ∙ ap (λ (x : PageLease). has_rank x.state r) (sym (lease_here m page l)))
    by false is =
        let other : q ≡ page → ⊥ = λ same. grind (arith, nat_tests) in
        others r q rank fits other ∙ h r q rank fits ∙ ap (λ (x : PageLease). has_rank x.state r) (sym (lease_other m page q l other))

pub index_kept : (m : Leases) (held going : List ℕ) (page : ℕ) (l : PageLease) → page < 2 ^ 32 → IsIndexed m held going → l.state ≡ (lease_of m page).state → IsIndexed (insert m page l) held going
index_kept m held going page l fits h same =
    index_set m held held going going page l h (λ r rank. h r page rank fits ∙ ap (λ (s : Lease). has_rank s r) (sym same)) (λ r q rank within other. refl)

-- What one number more, or one less, among the held pages makes of the other pages.
held_set : (held held' : List ℕ) (page q : ℕ) (b : Bool) → ((k : ℕ) → is_in held' k ≡ cond (nat_eq k page) b (is_in held k)) → (q ≡ page → ⊥) → is_in held' q ≡ is_in held q
held_set held held' page q b set other = set q ∙ by (nat_eq q page) refl
  where
    by : (x : Bool) → nat_eq q page ≡ x → cond x b (is_in held q) ≡ is_in held q
    by true is = absurd (other (grind (arith, nat_tests)))
    by false is = refl

held_here : (held held' : List ℕ) (page : ℕ) (b : Bool) → ((k : ℕ) → is_in held' k ≡ cond (nat_eq k page) b (is_in held k)) → is_in held' page ≡ b
held_here held held' page b set = set page ∙ by (nat_eq page page) refl
  where
    by : (x : Bool) → nat_eq page page ≡ x → cond x b (is_in held page) ≡ b
    by true is = refl
    by false is = absurd (grind (arith, nat_tests))

-- The same among those that are going.
going_set : (going going' : List ℕ) (page rank r q : ℕ) (b : Bool) → rank < 3 → page < 2 ^ 32 → r < 3 → q < 2 ^ 32 → ((k : ℕ) → is_in going' k ≡ cond (nat_eq k (key rank page)) b (is_in going k)) → (q ≡ page → ⊥)
    → is_in going' (key r q) ≡ is_in going (key r q)
going_set going going' page rank r q b ranks fits rank_fits within set other =
    set (key r q) ∙ ap (λ (x : Bool). cond x b (is_in going (key r q))) (other_key r rank q page rank_fits ranks within fits other)

going_here : (going going' : List ℕ) (page rank r : ℕ) (b : Bool) → rank < 3 → page < 2 ^ 32 → r < 3 → ((k : ℕ) → is_in going' k ≡ cond (nat_eq k (key rank page)) b (is_in going k))
    → is_in going' (key r page) ≡ cond (nat_eq r rank) b (is_in going (key r page))
going_here going going' page rank r b ranks fits rank_fits set = set (key r page) ∙ ap (λ (x : Bool). cond x b (is_in going (key r page))) (same_key r rank page rank_fits ranks fits)

pub is_held : (m : Leases) (held going : List ℕ) (page : ℕ) → page < 2 ^ 32 → IsIndexed m held going → (lease_of m page).state ≡ lease.Held → is_in held page ≡ true
is_held m held going page fits h old = h 0 page (omega arith) fits ∙ ap (λ (s : Lease). has_rank s 0) old

pub not_held : (m : Leases) (held going : List ℕ) (page : ℕ) → page < 2 ^ 32 → IsIndexed m held going → has_rank (lease_of m page).state 0 ≡ false → is_in held page ≡ false
not_held m held going page fits h old = h 0 page (omega arith) fits ∙ old

pub rank_not_0 : (rank : ℕ) → 1 ≤ rank → nat_eq rank 0 ≡ false
rank_not_0 rank some = by (nat_eq rank 0) refl
  where
    by : (b : Bool) → nat_eq rank 0 ≡ b → b ≡ false
    by true is = absurd (let none : rank ≡ 0 = grind (arith, nat_tests) in omega (arith, some, none))
    by false is = refl

pub is_going : (m : Leases) (held going : List ℕ) (page rank : ℕ) (b : Bool) → page < 2 ^ 32 → 1 ≤ rank → rank < 3 → IsIndexed m held going → has_rank (lease_of m page).state rank ≡ b → is_in going (key rank page) ≡ b
is_going m held going page rank b fits some ranks h old =
    ap (λ (x : Bool). cond x (is_in held page) (is_in going (key rank page))) (sym (rank_not_0 rank some)) ∙ h rank page ranks fits ∙ old

pub other_rank : (rank : ℕ) → 1 ≤ rank → nat_eq 0 rank ≡ false
other_rank rank some = by (nat_eq 0 rank) refl
  where
    by : (b : Bool) → nat_eq 0 rank ≡ b → b ≡ false
    by true is = absurd (let none : 0 ≡ rank = grind (arith, nat_tests) in omega (arith, some, none))
    by false is = refl

none_rank : (s : Lease) (r : ℕ) → s ≡ lease.None → has_rank s r ≡ false
none_rank s r is = ap (λ (x : Lease). has_rank x r) is

-- A page that has no lease is held.
pub index_begun : (m : Leases) (held held' going going' : List ℕ) (page : ℕ) (l : PageLease) → page < 2 ^ 32 → IsIndexed m held going → (lease_of m page).state ≡ lease.None → l.state ≡ lease.Held → going' ≡ going
    → ((k : ℕ) → is_in held' k ≡ cond (nat_eq k page) true (is_in held k)) → IsIndexed (insert m page l) held' going'
index_begun m held held' going going' page l fits h free is_held same added =
    subst (IsIndexed (insert m page l) held') (sym same)
    (index_set m held held' going going page l h (λ r rank. here r (nat_eq r 0) refl (h r page rank fits ∙ none_rank (lease_of m page).state r free) ∙ ap (λ (s : Lease). has_rank s r) (sym is_held))
    (λ r q rank within other. ap (λ (x : Bool). cond (nat_eq r 0) x (is_in going (key r q))) (held_set held held' page q true added other)))
  where
    here : (r : ℕ) (b : Bool) → nat_eq r 0 ≡ b → cond b (is_in held page) (is_in going (key r page)) ≡ false → cond b (is_in held' page) (is_in going (key r page)) ≡ b
    here r true is out = held_here held held' page true added
    here r false is out = out

-- A held page goes, to a state of another rank.
pub index_gone : (m : Leases) (held held' going going' : List ℕ) (page to : ℕ) (l : PageLease) → page < 2 ^ 32 → 1 ≤ to → to < 3 → IsIndexed m held going → (lease_of m page).state ≡ lease.Held
    → ((r : ℕ) → has_rank l.state r ≡ nat_eq r to) → ((k : ℕ) → is_in held' k ≡ cond (nat_eq k page) false (is_in held k)) → ((k : ℕ) → is_in going' k ≡ cond (nat_eq k (key to page)) true (is_in going k))
    → IsIndexed (insert m page l) held' going'
index_gone m held held' going going' page to l fits some ranks h old new less more =
    index_set m held held' going going' page l h (λ r rank. here r rank (nat_eq r 0) refl (h r page rank fits ∙ ap (λ (s : Lease). has_rank s r) old) ∙ sym (new r))
    (λ r q rank within other.
    ap (λ (x : Bool). cond (nat_eq r 0) x (is_in going' (key r q))) (held_set held held' page q false less other)
    ∙ ap (cond (nat_eq r 0) (is_in held q)) (going_set going going' page to r q true ranks fits rank within more other))
  where
    here : (r : ℕ) → r < 3 → (b : Bool) → nat_eq r 0 ≡ b → cond b (is_in held page) (is_in going (key r page)) ≡ nat_eq r 0 → cond b (is_in held' page) (is_in going' (key r page)) ≡ nat_eq r to
    here r rank true is was = held_here held held' page false less ∙ (let none : r ≡ 0 = grind (arith, nat_tests) in sym (ap (λ (n : ℕ). nat_eq n to) none ∙ other_rank to some))
    here r rank false is was = going_here going going' page to r true ranks fits rank more ∙ ap (cond (nat_eq r to) true) (was ∙ is) ∙ by (nat_eq r to)
      where
        by : (x : Bool) → cond x true false ≡ x
        by true = refl
        by false = refl

-- A held page has no lease any more.
pub index_left : (m m' : Leases) (held held' going : List ℕ) (page : ℕ) → page < 2 ^ 32 → IsIndexed m held going → (lease_of m page).state ≡ lease.Held → (lease_of m' page).state ≡ lease.None
    → ((q : ℕ) → (q ≡ page → ⊥) → lease_of m' q ≡ lease_of m q) → ((k : ℕ) → is_in held' k ≡ cond (nat_eq k page) false (is_in held k)) → IsIndexed m' held' going
index_left m m' held held' going page fits h old new others less r q rank within = by (nat_eq q page) refl
  where
    here : (b : Bool) → nat_eq r 0 ≡ b → cond b (is_in held page) (is_in going (key r page)) ≡ nat_eq r 0 → cond b (is_in held' page) (is_in going (key r page)) ≡ false
    here true is was = held_here held held' page false less
    here false is was = was ∙ is

    by : (b : Bool) → nat_eq q page ≡ b → is_ranked held' going r q ≡ has_rank (lease_of m' q).state r
    by true is =
        let same : page ≡ q = grind (arith, nat_tests) in
        subst (λ (n : ℕ). is_ranked held' going r n ≡ has_rank (lease_of m' n).state r) same
        (here (nat_eq r 0) refl (h r page rank fits ∙ ap (λ (s : Lease). has_rank s r) old) ∙ sym (none_rank (lease_of m' page).state r new))
    by false is =
        let other : q ≡ page → ⊥ = λ same. grind (arith, nat_tests) in
        ap (λ (x : Bool). cond (nat_eq r 0) x (is_in going (key r q))) (held_set held held' page q false less other) ∙ h r q rank within ∙ ap (λ (x : PageLease). has_rank x.state r) (sym (others q other))

pub left_here : (m : Leases) (page : ℕ) (l : PageLease) → l.state ≡ lease.None → (lease_of (insert m page l) page).state ≡ lease.None
left_here m page l none = ap (λ (x : PageLease). x.state) (lease_here m page l) ∙ none

pub left_other : (m : Leases) (page q : ℕ) (l : PageLease) → (q ≡ page → ⊥) → lease_of (insert m page l) q ≡ lease_of m q
left_other m page q l other = lease_other m page q l other

pub forgotten_here : (m : Leases) (page : ℕ) → (lease_of (remove m page) page).state ≡ lease.None
forgotten_here m page = ap (λ (x : PageLease). x.state) (here m page)
  where
    here : (m : Leases) (page : ℕ) → lease_of (remove m page) page ≡ unseen
    here m page = grind (arith, nat_tests, gets)

pub forgotten_other : (m : Leases) (page q : ℕ) → (q ≡ page → ⊥) → lease_of (remove m page) q ≡ lease_of m q
forgotten_other m page q other = grind (arith, nat_tests, gets)

-- The ranks of a state that goes.
pub recalled_rank : (l : PageLease) → l.state ≡ lease.Recalled → (r : ℕ) → has_rank l.state r ≡ nat_eq r 1
recalled_rank l is r = ap (λ (s : Lease). has_rank s r) is

pub releasing_rank : (l : PageLease) → l.state ≡ lease.Releasing → (r : ℕ) → has_rank l.state r ≡ nat_eq r 2
releasing_rank l is r = ap (λ (s : Lease). has_rank s r) is

-- A recalled page is being released.
pub index_given : (m : Leases) (held going between going' : List ℕ) (page : ℕ) (l : PageLease) → page < 2 ^ 32 → IsIndexed m held going → (lease_of m page).state ≡ lease.Recalled → l.state ≡ lease.Releasing
    → ((k : ℕ) → is_in between k ≡ cond (nat_eq k (key 1 page)) false (is_in going k)) → ((k : ℕ) → is_in going' k ≡ cond (nat_eq k (key 2 page)) true (is_in between k)) → IsIndexed (insert m page l) held going'
index_given m held going between going' page l fits h old new less more =
    index_set m held held going going' page l h (λ r rank. here r rank (nat_eq r 0) refl (h r page rank fits ∙ ap (λ (s : Lease). has_rank s r) old) ∙ ap (λ (s : Lease). has_rank s r) (sym new))
    (λ r q rank within other.
    ap (cond (nat_eq r 0) (is_in held q))
    (going_set between going' page 2 r q true (omega arith) fits rank within more other ∙ going_set going between page 1 r q false (omega arith) fits rank within less other))
  where
    here : (r : ℕ) → r < 3 → (b : Bool) → nat_eq r 0 ≡ b → cond b (is_in held page) (is_in going (key r page)) ≡ nat_eq r 1 → cond b (is_in held page) (is_in going' (key r page)) ≡ nat_eq r 2
    here r rank true is was = was ∙ (let none : r ≡ 0 = grind (arith, nat_tests) in ap (λ (n : ℕ). nat_eq n 1) none ∙ sym (ap (λ (n : ℕ). nat_eq n 2) none))
    here r rank false is was =
        going_here between going' page 2 r true (omega arith) fits rank more ∙ ap (cond (nat_eq r 2) true) (going_here going between page 1 r false (omega arith) fits rank less ∙ ap (cond (nat_eq r 1) false) was)
        ∙ by (nat_eq r 2) (nat_eq r 1)
      where
        by : (x y : Bool) → cond x true (cond y false y) ≡ x
        by true y = refl
        by false true = refl
        by false false = refl

-- A page that is going is held again.
pub index_back : (m : Leases) (held held' going going' : List ℕ) (page from : ℕ) (l : PageLease) → page < 2 ^ 32 → 1 ≤ from → from < 3 → IsIndexed m held going → ((r : ℕ) → has_rank (lease_of m page).state r ≡ nat_eq r from)
    → l.state ≡ lease.Held → ((k : ℕ) → is_in held' k ≡ cond (nat_eq k page) true (is_in held k)) → ((k : ℕ) → is_in going' k ≡ cond (nat_eq k (key from page)) false (is_in going k)) → IsIndexed (insert m page l) held' going'
index_back m held held' going going' page from l fits some ranks h old new more less =
    index_set m held held' going going' page l h (λ r rank. here r rank (nat_eq r 0) refl (h r page rank fits ∙ old r) ∙ ap (λ (s : Lease). has_rank s r) (sym new))
    (λ r q rank within other.
    ap (λ (x : Bool). cond (nat_eq r 0) x (is_in going' (key r q))) (held_set held held' page q true more other)
    ∙ ap (cond (nat_eq r 0) (is_in held q)) (going_set going going' page from r q false ranks fits rank within less other))
  where
    here : (r : ℕ) → r < 3 → (b : Bool) → nat_eq r 0 ≡ b → cond b (is_in held page) (is_in going (key r page)) ≡ nat_eq r from → cond b (is_in held' page) (is_in going' (key r page)) ≡ b
    here r rank true is was = held_here held held' page true more
    here r rank false is was = going_here going going' page from r false ranks fits rank less ∙ ap (cond (nat_eq r from) false) was ∙ by (nat_eq r from)
      where
        by : (x : Bool) → cond x false x ≡ false
        by true = refl
        by false = refl

-- The lease of a page that is being released is over.
pub index_ended : (m : Leases) (held going going' : List ℕ) (page : ℕ) (l : PageLease) → page < 2 ^ 32 → IsIndexed m held going → (lease_of m page).state ≡ lease.Releasing → l.state ≡ lease.None
    → ((k : ℕ) → is_in going' k ≡ cond (nat_eq k (key 2 page)) false (is_in going k)) → IsIndexed (insert m page l) held going'
index_ended m held going going' page l fits h old new less =
    index_set m held held going going' page l h (λ r rank. here r rank (nat_eq r 0) refl (h r page rank fits ∙ ap (λ (s : Lease). has_rank s r) old) ∙ sym (none_rank l.state r new))
    (λ r q rank within other. ap (cond (nat_eq r 0) (is_in held q)) (going_set going going' page 2 r q false (omega arith) fits rank within less other))
  where
    here : (r : ℕ) → r < 3 → (b : Bool) → nat_eq r 0 ≡ b → cond b (is_in held page) (is_in going (key r page)) ≡ nat_eq r 2 → cond b (is_in held page) (is_in going' (key r page)) ≡ false
    here r rank true is was = was ∙ (let none : r ≡ 0 = grind (arith, nat_tests) in ap (λ (n : ℕ). nat_eq n 2) none)
    here r rank false is was = going_here going going' page 2 r false (omega arith) fits rank less ∙ ap (cond (nat_eq r 2) false) was ∙ by (nat_eq r 2)
      where
        by : (x : Bool) → cond x false x ≡ false
        by true = refl
        by false = refl

pub rank_itself : (rank : ℕ) → nat_eq rank rank ≡ true
rank_itself rank = grind (arith, nat_tests)

-- A page that has a rank is kept.
pub ranked_kept : (m : Leases) (page rank : ℕ) → ((r : ℕ) → has_rank (lease_of m page).state r ≡ nat_eq r rank) → IsSome (get m page)
ranked_kept m page rank h = by (get m page) (h rank ∙ rank_itself rank)
  where
    by : (o : Option PageLease) → has_rank (or_unseen o).state rank ≡ true → IsSome o
    by None is = absurd (cc is)
    by (Some l) is = refl

pub nothing_ranked : (rank page : ℕ) → is_ranked [] [] rank page ≡ false
nothing_ranked rank page = by (nat_eq rank 0)
  where
    by : (b : Bool) → cond b false false ≡ false
    by true = refl
    by false = refl

-- ---- the next page

held_is : (m : Leases) (held going : List ℕ) (page : ℕ) → IsIndexed m held going → page < 2 ^ 32 → has_rank (lease_of m page).state 0 ≡ is_in held page
held_is m held going page h fits = sym (h 0 page (omega arith) fits)

pub held_found : (m : Leases) (held going : List ℕ) (after page : ℕ) → IsIndexed m held going → page < 2 ^ 32 → after < page → is_in held page ≡ true → ((k : ℕ) → after < k → k < page → is_in held k ≡ false)
    → IsNextRanked m 0 after (Some (record { 0 = page }))
held_found m held going after page h fits above there first =
    (above, held_is m held going page h fits ∙ there, λ other over below. held_is m held going other h (omega (arith, below, fits)) ∙ first other over below)

-- a rank tells the state
pub ranked_next : (m : Leases) (state : Lease) (rank after : ℕ) (r : Option Page) → ((s : Lease) → has_rank s rank ≡ true → s ≡ state) → has_rank state rank ≡ true → IsNextRanked m rank after r → IsNext m state after r
ranked_next m state rank after None tells is h = λ page above fits same. let not = h page above fits in let so = ap (λ (s : Lease). has_rank s rank) same ∙ is in cc (not, so)
ranked_next m state rank after (Some page) tells is h =
    (h.0, tells (lease_of m page.0).state h.1, λ other above below same. let not = h.2 other above below in let so = ap (λ (s : Lease). has_rank s rank) same ∙ is in cc (not, so))

-- what holds where a call succeeds
pub on_ok : {P : Type 0} → (r : Result (Unit {0}) NoMemory) → is_err r ≡ false → OnOk r P → P
on_ok (Ok x) h p = p
on_ok (Err e) h p = absurd (cc h)
