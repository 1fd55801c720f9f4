-- Numbers of an ordered set.
use Rattle.std.proofs.Common.{◌≡◌, ◌<◌, ◌≤◌, ◌+◌, ℕ, Bool, true, false, List, [], ◌∷◌, length, refl, ap, sym, subst, ◌∙◌, cond, arith, nat_eq, nat_lt}
use Rattle.std.specs.Prelude.{if◌then◌else◌, not}
use Rattle.std.specs.Ordering.{nat_cmp, is_gt}
use Rattle.std.specs.List.{list_any}
use Rattle.std.specs.BTreeMap.{is_at}
use Rattle.std.specs.BTreeSet.{IsKeyRangeOf}
use Rattle.std.specs.declared.ops.Bound.TheVariants.{Excluded, Unbounded}
use Rattle.std.specs.declared.cmp.Ordering.TheVariants.{Less}
use Rattle.std.proofs.lemmas.Bool.Decides.{nat_tests}
use Rattle.lease_desk.specs.Inside.{is_in}

at_is : (q x : ℕ) → is_at (nat_cmp q) x ≡ nat_eq q x
at_is q x = grind (arith, nat_tests)

pub in_is : (xs : List ℕ) (q : ℕ) → list_any (is_at (nat_cmp q)) xs ≡ is_in xs q
in_is [] q = refl
in_is (x ∷ xs) q = grind (arith, at_is q x, in_is xs q)

-- ---- a number more, and one less

pub in_set : (old new now : List ℕ) (page : ℕ) (b : Bool) → old ≡ now → ((q : ℕ) → list_any (is_at (nat_cmp q)) new ≡ cond (is_at (nat_cmp page) q) b (list_any (is_at (nat_cmp q)) old))
    → (k : ℕ) → is_in new k ≡ cond (nat_eq k page) b (is_in now k)
in_set old new now page b is set k =
    sym (in_is new k) ∙ set k ∙ ap (λ (x : Bool). cond x b (list_any (is_at (nat_cmp k)) old)) (at_is page k ∙ turned) ∙ ap (cond (nat_eq k page) b) (in_is old k ∙ ap (λ (xs : List ℕ). is_in xs k) is)
  where
    turned : nat_eq page k ≡ nat_eq k page
    turned = grind (arith, nat_tests)

pub one_more : (old now : List ℕ) (page n : ℕ) (added : Bool) → old ≡ now → is_in now page ≡ false → added ≡ not (list_any (is_at (nat_cmp page)) old) → n ≡ length old + (if added then 1 else 0) → n ≡ length now + 1
one_more old now page n added is absent test count =
    let new : added ≡ true = test ∙ ap not (in_is old page ∙ ap (λ (xs : List ℕ). is_in xs page) is ∙ absent) in
    count ∙ ap (λ (b : Bool). length old + (if b then 1 else 0)) new ∙ ap (λ (xs : List ℕ). length xs + 1) is

pub one_less : (old now : List ℕ) (page n : ℕ) (taken : Bool) → old ≡ now → is_in now page ≡ true → taken ≡ list_any (is_at (nat_cmp page)) old → n + (if taken then 1 else 0) ≡ length old → n + 1 ≡ length now
one_less old now page n taken is there test count =
    let was : taken ≡ true = test ∙ in_is old page ∙ ap (λ (xs : List ℕ). is_in xs page) is ∙ there in
    sym (ap (λ (b : Bool). n + (if b then 1 else 0)) was) ∙ count ∙ ap (λ (xs : List ℕ). length xs) is

-- ---- the first above a number

abbrev Above : List ℕ → ℕ → List ℕ → Type 0
Above keys after r = IsKeyRangeOf nat_cmp (Excluded after) Unbounded (record { keys = keys }) r

less_is : (a b : ℕ) → a < b → nat_cmp a b ≡ Less
less_is a b less = grind (arith, nat_tests)

is_less : (a b : ℕ) → nat_cmp a b ≡ Less → a < b
is_less a b less = by (nat_lt a b) refl
  where
    by : (x : Bool) → nat_lt a b ≡ x → a < b
    by true is = grind (arith, nat_tests)
    by false is = absurd (grind (arith, nat_tests))

up_to : (a b : ℕ) → is_gt (nat_cmp a b) ≡ false → a ≤ b
up_to a b low = by (nat_lt b a) refl
  where
    by : (x : Bool) → nat_lt b a ≡ x → a ≤ b
    by true is = absurd (grind (arith, nat_tests))
    by false is = grind (arith, nat_tests)

pub above_there : (keys now r rest : List ℕ) (after page : ℕ) → keys ≡ now → Above keys after r → r ≡ page ∷ rest → (after < page) × (is_in now page ≡ true)
above_there keys now r rest after page is h first =
    let one = subst (Above keys after) first h in (
      is_less after page one.1.0.0,
      ap (λ (xs : List ℕ). is_in xs page) (sym is) ∙ sym (in_is keys page) ∙ one.1.1,
    )

pub above_first : (keys now r rest : List ℕ) (after page : ℕ) → keys ≡ now → Above keys after r → r ≡ page ∷ rest → (k : ℕ) → after < k → k < page → is_in now k ≡ false
above_first keys now r rest after page is h first k above below = by (is_in now k) refl
  where
    by : (b : Bool) → is_in now k ≡ b → b ≡ false
    by true there =
        let one = subst (Above keys after) first h in
        let high : page ≤ k = up_to page k (one.2 k (less_is after k above, tt) (in_is keys k ∙ ap (λ (xs : List ℕ). is_in xs k) is ∙ there)) in absurd (omega (arith, high, below))
    by false there = refl

pub above_none : (keys now r : List ℕ) (after : ℕ) → keys ≡ now → Above keys after r → r ≡ [] → (k : ℕ) → after < k → is_in now k ≡ false
above_none keys now r after is h none k above = ap (λ (xs : List ℕ). is_in xs k) (sym is) ∙ sym (in_is keys k) ∙ h.5 none k (less_is after k above, tt)
