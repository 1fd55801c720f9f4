-- Facts on an acknowledgement that is taken back.
use Rattle.std.proofs.Common.{◌≡◌, ◌≤◌, ◌+◌, ◌-◌, ℕ, Bool, true, false, cond, not, ◌&&◌, ◌||◌, nat_eq, nat_lt, nat_le, List, [], ◌∷◌, length, set, slice_get, length-set, Option, Some, None, suc, zero, refl, sym, subst, ap, ◌∙◌, arith, min}
use Rattle.std.specs.List.{prefix_len}
use Rattle.std.proofs.lemmas.Bool.Decides.{nat_tests}
use Rattle.tm_data.specs.declared.transaction.Writer.{Writer}
use Rattle.log_writer.specs.declared.acks.Acks.{Acks}
use Rattle.log_writer.specs.declared.logged.Logged.{Logged}
use Rattle.log_writer.specs.Acks.{all_acks, has, with_ack}
use Rattle.log_writer.specs.Inside.{IsKept}
use Rattle.log_writer.specs.Log.{InOrder, Log, acked, acked_at, acked_there, is_marked, marked_of, numbered, placed, reached, was_let_go}
use Rattle.log_writer.specs.TakenBack.{taken_at, taken_back, taken_there, without_ack}
use Rattle.log_writer.proofs.OrderLemmas.{order_set}

-- ---- what is kept beside the groups

-- A prefix that ends before the element which changes stays.
prefix_before : {X : Type 0} (p : X → Bool) (xs : List X) (i n : ℕ) (y : X) → n ≤ prefix_len p xs → n ≤ i → n ≤ prefix_len p (set xs i y)
prefix_before p xs i zero y h k = omega arith
prefix_before p [] i (suc n) y h k = h
prefix_before p (x ∷ xs) zero (suc n) y h k = absurd (omega (arith, k))
prefix_before p (x ∷ xs) (suc i) (suc n) y h k = by (p x) (prefix_before p xs i n y) h
  where
    by : (b : Bool) → (n ≤ prefix_len p xs → n ≤ i → n ≤ prefix_len p (set xs i y)) → suc n ≤ cond b (1 + prefix_len p xs) 0 → suc n ≤ cond b (1 + prefix_len p (set xs i y)) 0
    by true rest l = let e = rest (omega (arith, l)) (omega (arith, k)) in omega (arith, e)
    by false rest l = absurd (omega (arith, l))

reached_before : (groups : List Logged) (store place s n : ℕ) → n ≤ reached groups s → n ≤ place - 1 → n ≤ reached (taken_at groups store place) s
reached_before groups store place s n h k = by (nat_eq place 0) (slice_get groups (place - 1))
  where
    by : (b : Bool) (there : Option Logged) → n ≤ reached (cond b groups (taken_there groups store (place - 1) there)) s
    by true there = h
    by false None = h
    by false (Some logged) = prefix_before (λ l. has l.acks s) groups (place - 1) n (record logged { acks = without_ack logged.acks store }) h k

-- What is walked on from.
pub taken_less : (old new : List Logged) (store place s from least : ℕ) → new ≡ taken_at old store place → from ≡ reached old s → least ≡ min from (place - 1) → least ≤ reached new s
taken_less old new store place s from least is far cut =
    subst (λ l. least ≤ reached l s) (sym is) (reached_before old store place s least (omega (arith, far, cut)) (omega (arith, cut)))

order_taken : (writer : Writer) (from after : ℕ) (groups : List Logged) (store place : ℕ) → InOrder writer from after groups → InOrder writer from after (taken_at groups store place)
order_taken writer from after groups store place h = by (nat_eq place 0) (slice_get groups (place - 1)) refl
  where
    by : (b : Bool) (there : Option Logged) → slice_get groups (place - 1) ≡ there → InOrder writer from after (cond b groups (taken_there groups store (place - 1) there))
    by true there is = h
    by false None is = h
    by false (Some logged) is = order_set writer from after groups (place - 1) logged (record logged { acks = without_ack logged.acks store }) is refl h

length_taken : (groups : List Logged) (store place : ℕ) → length (taken_at groups store place) ≡ length groups
length_taken groups store place = by (nat_eq place 0) (slice_get groups (place - 1))
  where
    by : (b : Bool) (there : Option Logged) → length (cond b groups (taken_there groups store (place - 1) there)) ≡ length groups
    by true there = refl
    by false None = refl
    by false (Some logged) = length-set groups (place - 1) (record logged { acks = without_ack logged.acks store })

pub kept_taken : (writer : Writer) (gone before : ℕ) (old new : List Logged) (store place first second third first' second' third' : ℕ) → IsKept writer gone before old first second third → new ≡ taken_at old store place
    → first' ≡ reached new 1 → second' ≡ reached new 2 → third' ≡ reached new 3 → IsKept writer gone before new first' second' third'
kept_taken writer gone before old new store place first second third first' second' third' kept is h k l = record {
  order = subst (InOrder writer (gone + 1) before) (sym is) (order_taken writer (gone + 1) before old store place kept.order);
  short = omega (arith, kept.short, ap (λ (x : List Logged). length x) is, length_taken old store place);
  first_is = h;
  second_is = k;
  third_is = l;
}

-- ---- what was noted once is taken back whole

set_found : {X : Type 0} (xs : List X) (i : ℕ) (x y : X) → slice_get xs i ≡ Some x → slice_get (set xs i y) i ≡ Some y
set_found [] i x y h = absurd (cc h)
set_found (z ∷ zs) zero x y h = refl
set_found (z ∷ zs) (suc i) x y h = set_found zs i x y h

set_over : {X : Type 0} (xs : List X) (i : ℕ) (y z : X) → set (set xs i y) i z ≡ set xs i z
set_over [] i y z = refl
set_over (x ∷ xs) zero y z = refl
set_over (x ∷ xs) (suc i) y z = ap (λ (l : List _). x ∷ l) (set_over xs i y z)

set_same : {X : Type 0} (xs : List X) (i : ℕ) (x : X) → slice_get xs i ≡ Some x → set xs i x ≡ xs
set_same [] i x h = refl
set_same (z ∷ zs) zero x h = let one : z ≡ x = cc h in ap (λ y. y ∷ zs) (sym one)
set_same (z ∷ zs) (suc i) x h = ap (λ (l : List _). z ∷ l) (set_same zs i x h)

-- a store's own mark
once : (a b : Bool) → cond b a false ≡ false → ((a || b) && not b) ≡ a
once true true h = absurd (cc h)
once true false h = refl
once false true h = refl
once false false h = refl

acks_back : (acks : Acks) (store : ℕ) → has acks store ≡ false → without_ack (with_ack acks store) store ≡ acks
acks_back acks store h = λ i. record { first = once acks.first (nat_eq store 1) first i; second = once acks.second (nat_eq store 2) second i; third = once acks.third (nat_eq store 3) third i }
  where
    by : (x y z : Bool) → nat_eq store 1 ≡ x → nat_eq store 2 ≡ y → nat_eq store 3 ≡ z → cond x acks.first (cond y acks.second (cond z acks.third false)) ≡ false
        → (cond x acks.first false ≡ false) × (cond y acks.second false ≡ false) × (cond z acks.third false ≡ false)
    by true true z is_x is_y is_z k = absurd (grind (arith, nat_tests))
    by true false true is_x is_y is_z k = absurd (grind (arith, nat_tests))
    by true false false is_x is_y is_z k = (k, refl, refl)
    by false true true is_x is_y is_z k = absurd (grind (arith, nat_tests))
    by false true false is_x is_y is_z k = (refl, k, refl)
    by false false true is_x is_y is_z k = (refl, refl, k)
    by false false false is_x is_y is_z k = (refl, refl, refl)

    each : (cond (nat_eq store 1) acks.first false ≡ false) × (cond (nat_eq store 2) acks.second false ≡ false) × (cond (nat_eq store 3) acks.third false ≡ false)
    each = by (nat_eq store 1) (nat_eq store 2) (nat_eq store 3) refl refl refl h

    first : cond (nat_eq store 1) acks.first false ≡ false
    first = each.0

    second : cond (nat_eq store 2) acks.second false ≡ false
    second = each.1

    third : cond (nat_eq store 3) acks.third false ≡ false
    third = each.2

-- of a place
placed_back : (groups : List Logged) (store place : ℕ) → marked_of (placed groups place) store ≡ false → taken_at (acked_at groups store place) store place ≡ groups
placed_back groups store place h = by (nat_eq place 0) (slice_get groups (place - 1)) refl h
  where
    by : (b : Bool) (there : Option Logged) → slice_get groups (place - 1) ≡ there → marked_of (cond b None there) store ≡ false
        → cond b (cond b groups (acked_there groups store (place - 1) there))
        (taken_there (cond b groups (acked_there groups store (place - 1) there)) store (place - 1) (slice_get (cond b groups (acked_there groups store (place - 1) there)) (place - 1)))
        ≡ groups
    by true there is m = refl
    by false None is m = ap (taken_there groups store (place - 1)) is
    by false (Some logged) is m =
        let noted : Logged = record logged { acks = with_ack logged.acks store } in
        let row : List Logged = set groups (place - 1) noted in
        let back : record noted { acks = without_ack noted.acks store } ≡ logged = ap (λ (a : Acks). record logged { acks = a }) (acks_back logged.acks store m) in
        ap (taken_there row store (place - 1)) (set_found groups (place - 1) logged noted is)
        ∙ (set_over groups (place - 1) noted (record noted { acks = without_ack noted.acks store })
        ∙ (ap (set groups (place - 1)) back ∙ set_same groups (place - 1) logged is))

-- A group whose place isn't in the list has no mark.
not_marked : (log : Log) (seq store : ℕ) → is_marked log seq store ≡ false → marked_of (placed log.groups (seq - log.gone)) store ≡ false
not_marked log seq store h = by (was_let_go log seq) refl h
  where
    by : (b : Bool) → was_let_go log seq ≡ b → cond b (has all_acks store) (marked_of (numbered log seq) store) ≡ false → marked_of (placed log.groups (seq - log.gone)) store ≡ false
    by false is k = k
    by true is k = let at : seq - log.gone ≡ 0 = gone (nat_lt 0 seq) (nat_le seq log.gone) refl refl is in ap (λ (n : ℕ). marked_of (placed log.groups n) store) at
      where
        gone : (a b : Bool) → nat_lt 0 seq ≡ a → nat_le seq log.gone ≡ b → (a && b) ≡ true → seq - log.gone ≡ 0
        gone true true is_a is_b both = let most : seq ≤ log.gone = grind (arith, nat_tests) in omega (arith, most)
        gone true false is_a is_b both = absurd (cc both)
        gone false b is_a is_b both = absurd (cc both)

pub back : (log : Log) (store seq : ℕ) → is_marked log seq store ≡ false → taken_back (acked log store seq) store seq ≡ log
back log store seq h = ap (λ (ls : List Logged). record log { groups = ls }) (placed_back log.groups store (seq - log.gone) (not_marked log seq store h))

-- ---- what was noted stays so when it is noted again

once_more : (a b : Bool) → (b ≡ true → a ≡ true) → (a || b) ≡ a
once_more true b h = refl
once_more false true h = sym (h refl)
once_more false false h = refl

acks_again : (acks : Acks) (store : ℕ) → has acks store ≡ true → with_ack acks store ≡ acks
acks_again acks store h =
    λ i. record { first = once_more acks.first (nat_eq store 1) first i; second = once_more acks.second (nat_eq store 2) second i; third = once_more acks.third (nat_eq store 3) third i }
  where
    by : (x y z : Bool) → nat_eq store 1 ≡ x → nat_eq store 2 ≡ y → nat_eq store 3 ≡ z → cond x acks.first (cond y acks.second (cond z acks.third false)) ≡ true
        → (x ≡ true → acks.first ≡ true) × (y ≡ true → acks.second ≡ true) × (z ≡ true → acks.third ≡ true)
    by true true z is_x is_y is_z k = absurd (grind (arith, nat_tests))
    by true false true is_x is_y is_z k = absurd (grind (arith, nat_tests))
    by true false false is_x is_y is_z k = ((λ _. k), (λ m. absurd (cc m)), (λ m. absurd (cc m)))
    by false true true is_x is_y is_z k = absurd (grind (arith, nat_tests))
    by false true false is_x is_y is_z k = ((λ m. absurd (cc m)), (λ _. k), (λ m. absurd (cc m)))
    by false false true is_x is_y is_z k = ((λ m. absurd (cc m)), (λ m. absurd (cc m)), (λ _. k))
    by false false false is_x is_y is_z k = absurd (cc k)

    each : (nat_eq store 1 ≡ true → acks.first ≡ true) × (nat_eq store 2 ≡ true → acks.second ≡ true) × (nat_eq store 3 ≡ true → acks.third ≡ true)
    each = by (nat_eq store 1) (nat_eq store 2) (nat_eq store 3) refl refl refl h

    first : nat_eq store 1 ≡ true → acks.first ≡ true
    first = each.0

    second : nat_eq store 2 ≡ true → acks.second ≡ true
    second = each.1

    third : nat_eq store 3 ≡ true → acks.third ≡ true
    third = each.2

placed_again : (groups : List Logged) (store place : ℕ) → marked_of (placed groups place) store ≡ true → acked_at groups store place ≡ groups
placed_again groups store place h = by (nat_eq place 0) (slice_get groups (place - 1)) refl h
  where
    by : (b : Bool) (there : Option Logged) → slice_get groups (place - 1) ≡ there → marked_of (cond b None there) store ≡ true → cond b groups (acked_there groups store (place - 1) there) ≡ groups
    by true there is m = refl
    by false None is m = refl
    by false (Some logged) is m = ap (λ (a : Acks). set groups (place - 1) (record logged { acks = a })) (acks_again logged.acks store m) ∙ set_same groups (place - 1) logged is

pub again : (log : Log) (store seq : ℕ) → is_marked log seq store ≡ true → acked log store seq ≡ log
again log store seq h = by (was_let_go log seq) refl h
  where
    same : (n : ℕ) → acked_at log.groups store n ≡ log.groups → n ≡ seq - log.gone → acked log store seq ≡ log
    same n is at = ap (λ (ls : List Logged). record log { groups = ls }) (ap (acked_at log.groups store) (sym at) ∙ is)

    by : (b : Bool) → was_let_go log seq ≡ b → cond b (has all_acks store) (marked_of (numbered log seq) store) ≡ true → acked log store seq ≡ log
    by false is k = same (seq - log.gone) (placed_again log.groups store (seq - log.gone) k) refl
    by true is k = same 0 refl (gone (nat_lt 0 seq) (nat_le seq log.gone) refl refl is)
      where
        gone : (a b : Bool) → nat_lt 0 seq ≡ a → nat_le seq log.gone ≡ b → (a && b) ≡ true → 0 ≡ seq - log.gone
        gone true true is_a is_b both = let most : seq ≤ log.gone = grind (arith, nat_tests) in omega (arith, most)
        gone true false is_a is_b both = absurd (cc both)
        gone false b is_a is_b both = absurd (cc both)
