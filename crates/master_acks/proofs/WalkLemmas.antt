-- A walk over the pages whose leases are in a state.
use Rattle.std.proofs.Common.{◌≡◌, ◌<◌, ◌≤◌, ◌+◌, ◌^◌, ℕ, Bool, true, false, List, [], ◌∷◌, Option, Some, None, refl, ap, sym, subst, ◌∙◌, cond, arith, nat_eq}
use Rattle.std.specs.Prelude.{T, ◌&&◌, ◌++◌, nat_le, nat_lt}
use Rattle.std.specs.Ordering.{nat_cmp, eq_by_cmp, is_lt}
use Rattle.std.specs.Cmp.{unsigned_tied}
use Rattle.std.specs.FinMap as fin
use Rattle.std.specs.FinMap.Entries.{below_all, is_sorted}
use Rattle.std.proofs.lemmas.Bool.Decides.{nat_tests}
use Rattle.tm_data.specs.declared.transaction.Page.{Page}
use Rattle.lease_desk.specs.declared.lease.Lease.{Lease}
use Rattle.lease_desk.specs.declared.lease.Lease.TheVariants as lease
use Rattle.lease_desk.specs.declared.lease.PageLease.{PageLease}
use Rattle.lease_desk.specs.Desk.{IsNext, Leases, PagesFit, lease_of, or_unseen}
use Rattle.master_model.specs.Leases.{pages_in}
use Rattle.master_acks.specs.Inside.{has_lease, is_in, pages_from}

abbrev Row : Type 0
Row = ℕ × PageLease

-- ---- rows in the order of their pages

-- The pages rise strictly, each from `low` on.
abbrev pub Rises : ℕ → List Row → Type 0
Rises low [] = Unit {0}
Rises low (e ∷ es) = (low ≤ e.0) × Rises (e.0 + 1) es

first : (a b : Bool) → T (a && b) → T a
first true b p = tt
first false b p = p

second : (a b : Bool) → T (a && b) → T b
second true b p = p
second false b p = absurd p

less_is : (a b : ℕ) → T (is_lt (nat_cmp a b)) → a < b
less_is a b h = by (nat_lt a b) refl
  where
    by : (x : Bool) → nat_lt a b ≡ x → a < b
    by true is = grind (arith, nat_tests)
    by false is = absurd (grind (arith, nat_tests, h))

rises_above : (low : ℕ) (es : List Row) → T (below_all nat_cmp low es) → T (is_sorted nat_cmp es) → Rises (low + 1) es
rises_above low [] b s = tt
rises_above low (e ∷ es) b s =
    (omega (arith, less_is low e.0 (first _ _ b)), rises_above e.0 es (first _ _ s) (second _ _ s))

rises : (es : List Row) → T (is_sorted nat_cmp es) → Rises 0 es
rises [] s = tt
rises (e ∷ es) s = (omega arith, rises_above e.0 es (first _ _ s) (second _ _ s))

pub entries_rise : (m : Leases) → Rises 0 (fin.entries m)
entries_rise m = rises (fin.entries m) (fin.entries_sorted m)

-- ---- the state of a page among the rows

abbrev state_at : ℕ → List Row → Lease
state_at q es = (or_unseen (fin.find nat_cmp q es)).state

tied : (q p : ℕ) (b : Bool) → nat_eq q p ≡ b → eq_by_cmp nat_cmp q p ≡ b
tied q p b is = unsigned_tied q p ∙ is

found : (e : Row) (es : List Row) (q : ℕ) (b : Bool) → nat_eq q e.0 ≡ b → fin.find nat_cmp q (e ∷ es) ≡ cond b (Some e.1) (fin.find nat_cmp q es)
found e es q b is = ap (λ (x : Bool). cond x (Some e.1) (fin.find nat_cmp q es)) (tied q e.0 b is)

-- no page below all rows is among them
absent : (es : List Row) (low q : ℕ) → Rises low es → q < low → fin.find nat_cmp q es ≡ None
absent [] low q r less = refl
absent (e ∷ es) low q r less =
    let other : nat_eq q e.0 ≡ false = grind (arith, nat_tests, r.0) in
    found e es q false other ∙ absent es (e.0 + 1) q r.1 (omega (arith, less, r.0))

module _ (is : Lease → Bool) (none : is lease.None ≡ false) where
  no_state : (es : List Row) (low q : ℕ) → Rises low es → q < low → is (state_at q es) ≡ false
  no_state es low q r less = ap (λ (o : Option PageLease). is (or_unseen o).state) (absent es low q r less) ∙ none

  here : (e : Row) (es : List Row) → is (state_at e.0 (e ∷ es)) ≡ is e.1.state
  here e es = let same : nat_eq e.0 e.0 ≡ true = grind (arith, nat_tests) in ap (λ (o : Option PageLease). is (or_unseen o).state) (found e es e.0 true same)

  there : (e : Row) (es : List Row) (q : ℕ) → nat_eq q e.0 ≡ false → is (state_at q (e ∷ es)) ≡ is (state_at q es)
  there e es q other = ap (λ (o : Option PageLease). is (or_unseen o).state) (found e es q false other)

  -- what isn't among the rows isn't among those behind the first one
  behind : (e : Row) (es : List Row) (q : ℕ) → Rises (e.0 + 1) es → is (state_at q (e ∷ es)) ≡ false → is (state_at q es) ≡ false
  behind e es q r out = by (nat_eq q e.0) refl
    where
      by : (b : Bool) → nat_eq q e.0 ≡ b → is (state_at q es) ≡ false
      by true same = let at : q ≡ e.0 = grind (arith, nat_tests) in no_state es (e.0 + 1) q r (omega (arith, at))
      by false other = sym (there e es q other) ∙ out

  -- ---- the pages from a number on

  pub none_from : (es : List Row) (low least : ℕ) → Rises low es → ((q : ℕ) → least ≤ q → is (state_at q es) ≡ false) → pages_from is least es ≡ []
  none_from [] low least r out = refl
  none_from (e ∷ es) low least r out = by (nat_le least e.0) refl (none_from es (e.0 + 1) least r.1 (λ q above. behind e es q r.1 (out q above)))
    where
      by : (b : Bool) → nat_le least e.0 ≡ b → pages_from is least es ≡ [] → cond b (cond (is e.1.state) (e.0 ∷ pages_from is least es) (pages_from is least es)) (pages_from is least es) ≡ []
      by true above rest =
          let low : least ≤ e.0 = grind (arith, nat_tests) in
          ap (λ (x : Bool). cond x (e.0 ∷ pages_from is least es) (pages_from is least es)) (sym (here e es) ∙ out e.0 low) ∙ rest
      by false above rest = rest

  pub same_from : (es : List Row) (low a b : ℕ) → Rises low es → a ≤ b → ((q : ℕ) → a ≤ q → q < b → is (state_at q es) ≡ false) → pages_from is a es ≡ pages_from is b es
  same_from [] low a b r up out = refl
  same_from (e ∷ es) low a b r up out = by (nat_le a e.0) (nat_le b e.0) refl refl (same_from es (e.0 + 1) a b r.1 up (λ q above below. behind e es q r.1 (out q above below)))
    where
      by : (x y : Bool) → nat_le a e.0 ≡ x → nat_le b e.0 ≡ y → pages_from is a es ≡ pages_from is b es
          → cond x (cond (is e.1.state) (e.0 ∷ pages_from is a es) (pages_from is a es)) (pages_from is a es) ≡ cond y (cond (is e.1.state) (e.0 ∷ pages_from is b es) (pages_from is b es)) (pages_from is b es)
      by true true is_x is_y rest = ap (λ (ps : List ℕ). cond (is e.1.state) (e.0 ∷ ps) ps) rest
      by false true is_x is_y rest = absurd (let high : e.0 < a = grind (arith, nat_tests) in let low : b ≤ e.0 = grind (arith, nat_tests) in omega (arith, up, high, low))
      by false false is_x is_y rest = rest
      by true false is_x is_y rest =
          let low : a ≤ e.0 = grind (arith, nat_tests) in
          let high : e.0 < b = grind (arith, nat_tests) in
          ap (λ (x : Bool). cond x (e.0 ∷ pages_from is a es) (pages_from is a es)) (sym (here e es) ∙ out e.0 low high) ∙ rest

  only : (p q : ℕ) → p ≤ q → q < p + 1 → q ≡ p
  only p q above below = omega (arith, above, below)

  skipped : (es : List Row) (low p : ℕ) → Rises low es → is (state_at p es) ≡ false → pages_from is p es ≡ pages_from is (p + 1) es
  skipped es low p r out = same_from es low p (p + 1) r (omega arith) (λ q above below. ap (λ (n : ℕ). is (state_at n es)) (only p q above below) ∙ out)

  met : (es : List Row) (low p : ℕ) → Rises low es → is (state_at p es) ≡ true → pages_from is p es ≡ p ∷ pages_from is (p + 1) es
  met [] low p r in_it = absurd (let no = sym none ∙ in_it in cc no)
  met (e ∷ es) low p r in_it = by (nat_eq p e.0) refl (met es (e.0 + 1) p r.1)
    where
      out_of : (b : Bool) (n : ℕ) → nat_le n e.0 ≡ b → pages_from is n (e ∷ es) ≡ cond b (cond (is e.1.state) (e.0 ∷ pages_from is n es) (pages_from is n es)) (pages_from is n es)
      out_of b n k = ap (λ (x : Bool). cond x (cond (is e.1.state) (e.0 ∷ pages_from is n es) (pages_from is n es)) (pages_from is n es)) k

      by : (b : Bool) → nat_eq p e.0 ≡ b → (is (state_at p es) ≡ true → pages_from is p es ≡ p ∷ pages_from is (p + 1) es) → pages_from is p (e ∷ es) ≡ p ∷ pages_from is (p + 1) (e ∷ es)
      by true same rest =
          let at : e.0 ≡ p = grind (arith, nat_tests) in
          let yes : is e.1.state ≡ true = sym (here e es) ∙ ap (λ (n : ℕ). is (state_at n (e ∷ es))) at ∙ in_it in
          let high : nat_le p e.0 ≡ true = grind (arith, nat_tests) in
          let low : nat_le (p + 1) e.0 ≡ false = grind (arith, nat_tests) in
          out_of true p high ∙ ap (λ (x : Bool). cond x (e.0 ∷ pages_from is p es) (pages_from is p es)) yes
          ∙ (λ i. at i ∷ skipped es (e.0 + 1) p r.1 (no_state es (e.0 + 1) p r.1 (omega (arith, at))) i)
          ∙ ap (λ (ps : List ℕ). p ∷ ps) (sym (out_of false (p + 1) low))
      by false other rest = at (nat_lt p e.0) refl
        where
          at : (x : Bool) → nat_lt p e.0 ≡ x → pages_from is p (e ∷ es) ≡ p ∷ pages_from is (p + 1) (e ∷ es)
          at true under =
              let less : p < e.0 + 1 = grind (arith, nat_tests) in
              absurd (let no : false ≡ true = sym (no_state es (e.0 + 1) p r.1 less) ∙ sym (there e es p other) ∙ in_it in cc no)
          at false under =
              let a : nat_le p e.0 ≡ false = grind (arith, nat_tests, other) in
              let b : nat_le (p + 1) e.0 ≡ false = grind (arith, nat_tests, other) in
              out_of false p a ∙ rest (sym (there e es p other) ∙ in_it) ∙ ap (λ (ps : List ℕ). p ∷ ps) (sym (out_of false (p + 1) b))

  all_from : (es : List Row) → pages_from is 0 es ≡ pages_in is es
  all_from [] = refl
  all_from (e ∷ es) =
      let low : nat_le 0 e.0 ≡ true = grind (arith, nat_tests) in
      ap (λ (x : Bool). cond x (cond (is e.1.state) (e.0 ∷ pages_from is 0 es) (pages_from is 0 es)) (pages_from is 0 es)) low
      ∙ ap (λ (ps : List ℕ). cond (is e.1.state) (e.0 ∷ ps) ps) (all_from es)

-- ---- the states

tells : (s l : Lease) → is_in s l ≡ true → l ≡ s
tells lease.None l is = absurd (cc is)
tells lease.Held lease.None is = absurd (cc is)
tells lease.Held lease.Held is = refl
tells lease.Held lease.Recalled is = absurd (cc is)
tells lease.Held lease.Releasing is = absurd (cc is)
tells lease.Recalled lease.None is = absurd (cc is)
tells lease.Recalled lease.Held is = absurd (cc is)
tells lease.Recalled lease.Recalled is = refl
tells lease.Recalled lease.Releasing is = absurd (cc is)
tells lease.Releasing lease.None is = absurd (cc is)
tells lease.Releasing lease.Held is = absurd (cc is)
tells lease.Releasing lease.Recalled is = absurd (cc is)
tells lease.Releasing lease.Releasing is = refl

said : (s : Lease) → has_lease s ≡ true → is_in s s ≡ true
said lease.None h = absurd (cc h)
said lease.Held h = refl
said lease.Recalled h = refl
said lease.Releasing h = refl

no_lease : (s : Lease) → is_in s lease.None ≡ false
no_lease lease.None = refl
no_lease lease.Held = refl
no_lease lease.Recalled = refl
no_lease lease.Releasing = refl

not_in : (s l : Lease) → (l ≡ s → ⊥) → is_in s l ≡ false
not_in s l other = by (is_in s l) refl
  where
    by : (b : Bool) → is_in s l ≡ b → b ≡ false
    by true is = absurd (other (tells s l is))
    by false is = refl

-- ---- the walk

lease_at : (m : Leases) (q : ℕ) → (lease_of m q).state ≡ state_at q (fin.entries m)
lease_at m q = ap (λ (o : Option PageLease). (or_unseen o).state) (fin.get-entries m q)

module _ (m : Leases) (s : Lease) where
  abbrev all : List Row
  all = fin.entries m

  no_page : (q : ℕ) → ((lease_of m q).state ≡ s → ⊥) → is_in s (state_at q all) ≡ false
  no_page q other = ap (is_in s) (sym (lease_at m q)) ∙ not_in s (lease_of m q).state other

  -- It begins at page 0.
  pub first_met : is_in s (lease_of m 0).state ≡ true → 0 ∷ pages_from (is_in s) 1 all ≡ pages_in (is_in s) all
  first_met is = sym (met (is_in s) (no_lease s) all 0 0 (entries_rise m) (ap (is_in s) (sym (lease_at m 0)) ∙ is)) ∙ all_from (is_in s) (no_lease s) all

  pub first_missed : is_in s (lease_of m 0).state ≡ false → pages_from (is_in s) 1 all ≡ pages_in (is_in s) all
  first_missed is = sym (skipped (is_in s) (no_lease s) all 0 0 (entries_rise m) (ap (is_in s) (sym (lease_at m 0)) ∙ is)) ∙ all_from (is_in s) (no_lease s) all

  -- It goes on to the next page.
  pub walk_on : (after : ℕ) (page : Page) → has_lease s ≡ true → IsNext m s after (Some page) → pages_from (is_in s) (after + 1) all ≡ page.0 ∷ pages_from (is_in s) (page.0 + 1) all
  walk_on after page leased next =
      same_from (is_in s) (no_lease s) all 0 (after + 1) page.0 (entries_rise m) (omega (arith, next.0)) (λ q above below. no_page q (next.2 q (omega (arith, above)) below))
      ∙ met (is_in s) (no_lease s) all 0 page.0 (entries_rise m) (ap (is_in s) (sym (lease_at m page.0) ∙ next.1) ∙ said s leased)

  -- It ends where there is no next page.
  pub walk_ends : (after : ℕ) → IsNext m s after None → PagesFit m → pages_from (is_in s) (after + 1) all ≡ []
  walk_ends after next fits = none_from (is_in s) (no_lease s) all 0 (after + 1) (entries_rise m) (λ q above. by q (omega (arith, above)) (nat_lt q (2 ^ 32)) refl)
    where
      by : (q : ℕ) → after < q → (b : Bool) → nat_lt q (2 ^ 32) ≡ b → is_in s (state_at q all) ≡ false
      by q above true is = let fit : q < 2 ^ 32 = grind (arith, nat_tests) in no_page q (next q above fit)
      by q above false is =
          let high : 2 ^ 32 ≤ q = grind (arith, nat_tests) in
          ap (is_in s) (sym (lease_at m q) ∙ ap (λ (o : Option PageLease). (or_unseen o).state) (fits q high)) ∙ no_lease s
