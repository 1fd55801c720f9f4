-- Facts on numbers in ascending order.
use Rattle.std.proofs.Common.{◌≡◌, ◌<◌, ◌≤◌, ◌+◌, ◌-◌, ◌/◌, ℕ, suc, zero, Bool, true, false, List, [], ◌∷◌, length, get_or, refl, ap, sym, subst, ◌∙◌, cond, arith, nat_eq, nat_lt, insert, remove}
use Rattle.std.specs.Prelude.{if◌then◌else◌}
use Rattle.std.proofs.lemmas.Bool.Decides.{nat_tests}
use Rattle.lease_desk.specs.Inside.{is_in, RisingFrom, Rising, IsPlace}

-- ---- where numbers stand

pub rising_least : (low : ℕ) (xs : List ℕ) (k : ℕ) → RisingFrom low xs → k < length xs → low ≤ get_or xs k 0
rising_least low [] k h less = absurd (omega (arith, less))
rising_least low (x ∷ xs) zero h less = h.0
rising_least low (x ∷ xs) (suc k) h less = omega (arith, h.0, rising_least (x + 1) xs k h.1 (omega (arith, less)))

pub rising_at : (low : ℕ) (xs : List ℕ) (i j : ℕ) → RisingFrom low xs → i < j → j < length xs → get_or xs i 0 < get_or xs j 0
rising_at low [] i j h less within = absurd (omega (arith, within))
rising_at low (x ∷ xs) i zero h less within = absurd (omega (arith, less))
rising_at low (x ∷ xs) zero (suc j) h less within = omega (arith, rising_least (x + 1) xs j h.1 (omega (arith, within)))
rising_at low (x ∷ xs) (suc i) (suc j) h less within = rising_at (x + 1) xs i j h.1 (omega (arith, less)) (omega (arith, within))

pub in_index : (xs : List ℕ) (q : ℕ) → is_in xs q ≡ true → (k : ℕ) × (k < length xs) × (get_or xs k 0 ≡ q)
in_index [] q h = absurd (cc h)
in_index (x ∷ xs) q h = by (nat_eq q x) refl h (λ there. in_index xs q there)
  where
    by : (b : Bool) → nat_eq q x ≡ b → cond b true (is_in xs q) ≡ true → (is_in xs q ≡ true → (k : ℕ) × (k < length xs) × (get_or xs k 0 ≡ q)) → (k : ℕ) × (k < suc (length xs)) × (get_or (x ∷ xs) k 0 ≡ q)
    by true is there rest = (zero, omega arith, grind (arith, nat_tests))
    by false is there rest = let r = rest there in (suc r.0, omega (arith, r.1), r.2)

pub index_in : (xs : List ℕ) (k : ℕ) → k < length xs → is_in xs (get_or xs k 0) ≡ true
index_in [] k less = absurd (omega (arith, less))
index_in (x ∷ xs) zero less = by (nat_eq x x) refl
  where
    by : (b : Bool) → nat_eq x x ≡ b → cond b true (is_in xs x) ≡ true
    by true is = refl
    by false is = absurd (grind (arith, nat_tests))
index_in (x ∷ xs) (suc k) less = by (nat_eq (get_or xs k 0) x) (index_in xs k (omega (arith, less)))
  where
    by : (b : Bool) → is_in xs (get_or xs k 0) ≡ true → cond b true (is_in xs (get_or xs k 0)) ≡ true
    by true there = refl
    by false there = there

-- a number that stands nowhere isn't in
not_in : (xs : List ℕ) (q : ℕ) → ((k : ℕ) → k < length xs → get_or xs k 0 ≡ q → ⊥) → is_in xs q ≡ false
not_in xs q never = by (is_in xs q) refl
  where
    by : (b : Bool) → is_in xs q ≡ b → b ≡ false
    by true h = absurd (let r = in_index xs q h in never r.0 r.1 r.2)
    by false h = refl

-- ---- a place

-- a number that is in stands at its place
pub stands : (xs : List ℕ) (q place : ℕ) → Rising xs → is_in xs q ≡ true → IsPlace xs q place → (place < length xs) × (get_or xs place 0 ≡ q)
stands xs q place rising h p =
    let r = in_index xs q h in
    let high : place ≤ r.0 = by r (nat_lt r.0 place) refl in
    (omega (arith, high, r.1), here r high (nat_lt place r.0) refl)
  where
    by : (r : (k : ℕ) × (k < length xs) × (get_or xs k 0 ≡ q)) → (b : Bool) → nat_lt r.0 place ≡ b → place ≤ r.0
    by r true is = let less : r.0 < place = grind (arith, nat_tests) in absurd (omega (arith, p.before r.0 less, r.2))
    by r false is = grind (arith, nat_tests)

    here : (r : (k : ℕ) × (k < length xs) × (get_or xs k 0 ≡ q)) → place ≤ r.0 → (b : Bool) → nat_lt place r.0 ≡ b → get_or xs place 0 ≡ q
    here r high true is =
        let less : place < r.0 = grind (arith, nat_tests) in
        absurd (omega (arith, rising_at 0 xs place r.0 rising less r.1, p.behind place (omega arith) (omega (arith, less, r.1)), r.2))
    here r high false is = let same : place ≡ r.0 = grind (arith, nat_tests) in ap (λ (n : ℕ). get_or xs n 0) same ∙ r.2

-- ---- one more

in_insert : (xs : List ℕ) (i q k : ℕ) → i ≤ length xs → is_in (insert xs i q) k ≡ cond (nat_eq k q) true (is_in xs k)
in_insert xs zero q k h = refl
in_insert [] (suc i) q k h = absurd (omega (arith, h))
in_insert (x ∷ xs) (suc i) q k h = ap (cond (nat_eq k x) true) (in_insert xs i q k (omega (arith, h))) ∙ by (nat_eq k x) (nat_eq k q)
  where
    by : (a b : Bool) → cond a true (cond b true (is_in xs k)) ≡ cond b true (cond a true (is_in xs k))
    by true true = refl
    by true false = refl
    by false true = refl
    by false false = refl

rising_insert : (low : ℕ) (xs : List ℕ) (i q : ℕ) → RisingFrom low xs → low ≤ q → i ≤ length xs → ((k : ℕ) → k < i → get_or xs k 0 < q) → ((k : ℕ) → i ≤ k → k < length xs → q < get_or xs k 0) → RisingFrom low (insert xs i q)
rising_insert low [] zero q h least within before behind = (least, tt)
rising_insert low (x ∷ xs) zero q h least within before behind = let above : q < x = behind zero (omega arith) (omega arith) in (least, (omega (arith, above), h.1))
rising_insert low [] (suc i) q h least within before behind = absurd (omega (arith, within))
rising_insert low (x ∷ xs) (suc i) q h least within before behind =
    let below : x < q = before zero (omega arith) in
    (h.0, rising_insert (x + 1) xs i q h.1 (omega (arith, below)) (omega (arith, within)) (λ k less. before (suc k) (omega (arith, less))) (λ k more less. behind (suc k) (omega (arith, more)) (omega (arith, less))))

-- behind the place of a number that isn't in, all are greater
pub above_place : (xs : List ℕ) (q place : ℕ) → is_in xs q ≡ false → IsPlace xs q place → (k : ℕ) → place ≤ k → k < length xs → q < get_or xs k 0
above_place xs q place absent p k more less =
    let other : get_or xs k 0 ≡ q → ⊥ = λ same. let there = ap (is_in xs) (sym same) ∙ index_in xs k less in cc (there, absent) in omega (arith, p.behind k more less, other)

pub rising_added : (xs ys : List ℕ) (q place : ℕ) → Rising xs → is_in xs q ≡ false → IsPlace xs q place → ys ≡ insert xs place q → Rising ys
rising_added xs ys q place rising absent p is = subst Rising (sym is) (rising_insert 0 xs place q rising (omega arith) p.within p.before (above_place xs q place absent p))

pub in_added : (xs ys : List ℕ) (q place : ℕ) → IsPlace xs q place → ys ≡ insert xs place q → (k : ℕ) → is_in ys k ≡ cond (nat_eq k q) true (is_in xs k)
in_added xs ys q place p is k = ap (λ (zs : List ℕ). is_in zs k) is ∙ in_insert xs place q k p.within

-- ---- one less

rising_lower : (low low' : ℕ) (xs : List ℕ) → low' ≤ low → RisingFrom low xs → RisingFrom low' xs
rising_lower low low' [] less h = tt
rising_lower low low' (x ∷ xs) less h = (omega (arith, less, h.0), h.1)

rising_remove : (low : ℕ) (xs : List ℕ) (i : ℕ) → RisingFrom low xs → RisingFrom low (remove xs i)
rising_remove low [] zero h = tt
rising_remove low [] (suc i) h = tt
rising_remove low (x ∷ xs) zero h = rising_lower (x + 1) low xs (omega (arith, h.0)) h.1
rising_remove low (x ∷ xs) (suc i) h = (h.0, rising_remove (x + 1) xs i h.1)

in_remove : (low : ℕ) (xs : List ℕ) (i q k : ℕ) → RisingFrom low xs → i < length xs → get_or xs i 0 ≡ q → is_in (remove xs i) k ≡ cond (nat_eq k q) false (is_in xs k)
in_remove low [] i q k h within is = absurd (omega (arith, within))
in_remove low (x ∷ xs) zero q k h within is = by (nat_eq k q) (nat_eq k x) refl refl
  where
    by : (a b : Bool) → nat_eq k q ≡ a → nat_eq k x ≡ b → is_in xs k ≡ cond a false (cond b true (is_in xs k))
    by true b is_a is_b =
        let same : k ≡ x = grind (arith, nat_tests) in
        not_in xs k (λ j less there. omega (arith, rising_least (x + 1) xs j h.1 less, there, same))
    by false true is_a is_b = absurd (grind (arith, nat_tests))
    by false false is_a is_b = refl
in_remove low (x ∷ xs) (suc i) q k h within is = ap (cond (nat_eq k x) true) (in_remove (x + 1) xs i q k h.1 (omega (arith, within)) is) ∙ by (nat_eq k x) (nat_eq k q) refl refl
  where
    above : x < q
    above = omega (arith, rising_least (x + 1) xs i h.1 (omega (arith, within)), is)

    by : (a b : Bool) → nat_eq k x ≡ a → nat_eq k q ≡ b → cond a true (cond b false (is_in xs k)) ≡ cond b false (cond a true (is_in xs k))
    by true true is_a is_b = absurd (let one : k ≡ x = grind (arith, nat_tests) in let two : k ≡ q = grind (arith, nat_tests) in omega (arith, one, two, above))
    by true false is_a is_b = refl
    by false true is_a is_b = refl
    by false false is_a is_b = refl

pub rising_taken : (xs ys : List ℕ) (place : ℕ) → Rising xs → ys ≡ remove xs place → Rising ys
rising_taken xs ys place rising is = subst Rising (sym is) (rising_remove 0 xs place rising)

pub in_taken : (xs ys : List ℕ) (q place : ℕ) → Rising xs → is_in xs q ≡ true → IsPlace xs q place → ys ≡ remove xs place → (k : ℕ) → is_in ys k ≡ cond (nat_eq k q) false (is_in xs k)
in_taken xs ys q place rising there p is k =
    let s = stands xs q place rising there p in ap (λ (zs : List ℕ). is_in zs k) is ∙ in_remove 0 xs place q k rising s.0 s.1

-- ---- the first from a number on

pub before_first : (xs : List ℕ) (least place key k : ℕ) → Rising xs → IsPlace xs least place → place < length xs → key ≡ get_or xs place 0 → least ≤ k → k < key → is_in xs k ≡ false
before_first xs least place key k rising p within is low less = not_in xs k (λ j inside there. by j inside there (nat_lt j place) refl)
  where
    by : (j : ℕ) → j < length xs → get_or xs j 0 ≡ k → (b : Bool) → nat_lt j place ≡ b → ⊥
    by j inside there true at = let below : j < place = grind (arith, nat_tests) in omega (arith, p.before j below, there, low)
    by j inside there false at = next (nat_lt place j) refl
      where
        next : (c : Bool) → nat_lt place j ≡ c → ⊥
        next true at_c = let above : place < j = grind (arith, nat_tests) in omega (arith, rising_at 0 xs place j rising above inside, there, is, less)
        next false at_c = let same : place ≡ j = grind (arith, nat_tests) in omega (arith, ap (λ (n : ℕ). get_or xs n 0) same, there, is, less)

pub none_first : (xs : List ℕ) (least place k : ℕ) → IsPlace xs least place → length xs ≤ place → least ≤ k → is_in xs k ≡ false
none_first xs least place k p past low = not_in xs k (λ j inside there. omega (arith, p.before j (omega (arith, inside, past)), there, low))

-- ---- in the words of the calls

pub place_in : (slice xs : List ℕ) (q place : ℕ) → slice ≡ xs → IsPlace slice q place → IsPlace xs q place
place_in slice xs q place is p = subst (λ (zs : List ℕ). IsPlace zs q place) is p

pub rising_in : (slice xs : List ℕ) → slice ≡ xs → Rising xs → Rising slice
rising_in slice xs is h = subst Rising (sym is) h

pub first_there : (xs slice now : List ℕ) (least place key : ℕ) → slice ≡ xs → xs ≡ now → IsPlace slice least place → place < length slice → key ≡ get_or slice place 0 → (least ≤ key) × (is_in now key ≡ true)
first_there xs slice now least place key is view p within at =
    (omega (arith, p.behind place (omega arith) within, at), ap (λ (zs : List ℕ). is_in zs key) (sym (is ∙ view)) ∙ ap (is_in slice) at ∙ index_in slice place within)

pub first_first : (xs slice now : List ℕ) (least place key : ℕ) → Rising xs → slice ≡ xs → xs ≡ now → IsPlace slice least place → place < length slice → key ≡ get_or slice place 0 → (k : ℕ) → least ≤ k → k < key → is_in now k ≡ false
first_first xs slice now least place key rising is view p within at k low less =
    ap (λ (zs : List ℕ). is_in zs k) (sym (is ∙ view)) ∙ before_first slice least place key k (rising_in slice xs is rising) p within at low less

pub first_none : (xs slice now : List ℕ) (least place : ℕ) → slice ≡ xs → xs ≡ now → IsPlace slice least place → length slice ≤ place → (k : ℕ) → least ≤ k → is_in now k ≡ false
first_none xs slice now least place is view p past k low = ap (λ (zs : List ℕ). is_in zs k) (sym (is ∙ view)) ∙ none_first slice least place k p past low

-- ---- halving

abbrev Halved : List ℕ → ℕ → ℕ → ℕ → Type 0
Halved xs low high least =
    (low ≤ high) × (high ≤ length xs) × ((k : ℕ) → k < low → get_or xs k 0 < least) × ((k : ℕ) → high ≤ k → k < length xs → least ≤ get_or xs k 0)

half : (low high : ℕ) → low < high → low + (high - low) / 2 < high
half low high less = omega (arith, less)

at_or_before : (xs : List ℕ) (middle k least : ℕ) → Rising xs → middle < length xs → get_or xs middle 0 < least → k < middle + 1 → get_or xs k 0 < least
at_or_before xs middle k least rising within small less = by (nat_lt k middle) refl
  where
    by : (b : Bool) → nat_lt k middle ≡ b → get_or xs k 0 < least
    by true is = let before : k < middle = grind (arith, nat_tests) in omega (arith, rising_at 0 xs k middle rising before within, small)
    by false is = let same : k ≡ middle = grind (arith, nat_tests) in omega (arith, ap (λ (n : ℕ). get_or xs n 0) same, small)

at_or_behind : (xs : List ℕ) (middle k least : ℕ) → Rising xs → least ≤ get_or xs middle 0 → middle ≤ k → k < length xs → least ≤ get_or xs k 0
at_or_behind xs middle k least rising large more within = by (nat_lt middle k) refl
  where
    by : (b : Bool) → nat_lt middle k ≡ b → least ≤ get_or xs k 0
    by true is = let behind : middle < k = grind (arith, nat_tests) in omega (arith, rising_at 0 xs middle k rising behind within, large)
    by false is = let same : middle ≡ k = grind (arith, nat_tests) in omega (arith, ap (λ (n : ℕ). get_or xs n 0) same, large)

pub below_middle : (xs : List ℕ) (low high least : ℕ) → Rising xs → low < high → high ≤ length xs → ((k : ℕ) → k < low → get_or xs k 0 < least) → ((k : ℕ) → high ≤ k → k < length xs → least ≤ get_or xs k 0)
    → get_or xs (low + (high - low) / 2) 0 < least → Halved xs (low + (high - low) / 2 + 1) high least
below_middle xs low high least rising less within before behind small =
    let h = half low high less in (omega (arith, h), within, λ k below. at_or_before xs (low + (high - low) / 2) k least rising (omega (arith, h, within)) small below, behind)

pub above_middle : (xs : List ℕ) (low high least : ℕ) → Rising xs → low < high → high ≤ length xs → ((k : ℕ) → k < low → get_or xs k 0 < least) → ((k : ℕ) → high ≤ k → k < length xs → least ≤ get_or xs k 0)
    → least ≤ get_or xs (low + (high - low) / 2) 0 → Halved xs low (low + (high - low) / 2) least
above_middle xs low high least rising less within before behind large =
    let h = half low high less in (omega arith, omega (arith, h, within), before, λ k more inside. at_or_behind xs (low + (high - low) / 2) k least rising large more inside)

-- ---- what each call leaves

pub added_now : (xs ys slice now : List ℕ) (q place : ℕ) → slice ≡ xs → xs ≡ now → IsPlace slice q place → ys ≡ insert xs place q → (k : ℕ) → is_in ys k ≡ cond (nat_eq k q) true (is_in now k)
added_now xs ys slice now q place is view p new k = in_added xs ys q place (place_in slice xs q place is p) new k ∙ ap (λ (zs : List ℕ). cond (nat_eq k q) true (is_in zs k)) view

pub added_rising : (xs ys slice now : List ℕ) (q place : ℕ) → Rising xs → slice ≡ xs → xs ≡ now → is_in now q ≡ false → IsPlace slice q place → ys ≡ insert xs place q → Rising ys
added_rising xs ys slice now q place rising is view absent p new = rising_added xs ys q place rising (ap (λ (zs : List ℕ). is_in zs q) view ∙ absent) (place_in slice xs q place is p) new

pub taken_now : (xs ys slice now : List ℕ) (q place : ℕ) → Rising xs → slice ≡ xs → xs ≡ now → is_in now q ≡ true → IsPlace slice q place → ys ≡ remove xs place → (k : ℕ) → is_in ys k ≡ cond (nat_eq k q) false (is_in now k)
taken_now xs ys slice now q place rising is view there p new k =
    in_taken xs ys q place rising (ap (λ (zs : List ℕ). is_in zs q) view ∙ there) (place_in slice xs q place is p) new k ∙ ap (λ (zs : List ℕ). cond (nat_eq k q) false (is_in zs k)) view

pub taken_within : (xs slice now : List ℕ) (q place : ℕ) → Rising xs → slice ≡ xs → xs ≡ now → is_in now q ≡ true → IsPlace slice q place → place < length slice
taken_within xs slice now q place rising is view there p = (stands slice q place (rising_in slice xs is rising) (ap (λ (zs : List ℕ). is_in zs q) (is ∙ view) ∙ there) p).0

-- A number that there is room for is put into its place.
pub inserted_is : (xs ys : List ℕ) (q place : ℕ) (ok : Bool) → ys ≡ (if ok then insert xs place q else xs) → ok ≡ true → ys ≡ insert xs place q
inserted_is xs ys q place ok is done = is ∙ ap (λ (b : Bool). if b then insert xs place q else xs) done

-- One that isn't there isn't there when another one is taken out.
pub still_absent : (xs now : List ℕ) (new old : ℕ) → ((k : ℕ) → is_in xs k ≡ cond (nat_eq k old) false (is_in now k)) → is_in now new ≡ false → is_in xs new ≡ false
still_absent xs now new old less absent = less new ∙ by (nat_eq new old)
  where
    by : (b : Bool) → cond b false (is_in now new) ≡ false
    by true = refl
    by false = absent
