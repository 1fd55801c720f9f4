-- Facts on the prefixes of the log that were acknowledged.
use Rattle.std.proofs.Common.{◌≡◌, ◌≢◌, ◌≤◌, ◌+◌, ◌-◌, ℕ, Bool, true, false, cond, ◌&&◌, ◌||◌, nat_eq, List, [], ◌∷◌, ◌++◌, length, drop, set, slice_get, Option, Some, None, suc, zero, refl, sym, subst, ap, ◌∙◌, arith, min}
use Rattle.std.specs.List.{prefix_len}
use Rattle.std.proofs.lemmas.Bool.Decides.{nat_tests}
use Rattle.std.proofs.lemmas.List.Sums.{prefix_len-le-length}
use Rattle.log_writer.specs.declared.acks.Acks.{Acks}
use Rattle.log_writer.specs.declared.logged.Logged.{Logged}
use Rattle.log_writer.specs.Acks.{has, has_all, with_ack}
use Rattle.log_writer.specs.Log.{acked_at, acked_there, durable_count, reached}

-- A prefix is some first elements of it and what passes behind them.
pub prefix_split : {X : Type 0} (p : X → Bool) (xs : List X) (n : ℕ) → n ≤ prefix_len p xs → n + prefix_len p (drop n xs) ≡ prefix_len p xs
prefix_split p xs zero h = omega arith
prefix_split p [] (suc n) h = omega (arith, h)
prefix_split p (x ∷ xs) (suc n) h = by (p x) (prefix_split p xs n) h
  where
    by : (b : Bool) → (n ≤ prefix_len p xs → n + prefix_len p (drop n xs) ≡ prefix_len p xs) → suc n ≤ cond b (1 + prefix_len p xs) 0 → suc n + prefix_len p (drop n xs) ≡ cond b (1 + prefix_len p xs) 0
    by true rest h = let e : n + prefix_len p (drop n xs) ≡ prefix_len p xs = rest (omega (arith, h)) in omega (arith, e)
    by false rest h = omega (arith, h)

-- The prefix that passes three tests is the least of the three prefixes.
pub least_prefix : {X : Type 0} (p q r : X → Bool) (xs : List X) → min (min (prefix_len p xs) (prefix_len q xs)) (prefix_len r xs) ≡ prefix_len (λ x. p x && (q x && r x)) xs
least_prefix p q r [] = refl
least_prefix p q r (x ∷ xs) = by (p x) (q x) (r x) (least_prefix p q r xs)
  where
    by : (b c d : Bool) → min (min (prefix_len p xs) (prefix_len q xs)) (prefix_len r xs) ≡ prefix_len (λ x. p x && (q x && r x)) xs
        → min (min (cond b (1 + prefix_len p xs) 0) (cond c (1 + prefix_len q xs) 0)) (cond d (1 + prefix_len r xs) 0) ≡ cond (b && (c && d)) (1 + prefix_len (λ x. p x && (q x && r x)) xs) 0
    by true true true rest = grind (arith, rest)
    by true true false rest = grind arith
    by true false d rest = grind arith
    by false c d rest = grind arith

pub least_reached : (groups : List Logged) → min (min (reached groups 1) (reached groups 2)) (reached groups 3) ≡ durable_count groups
least_reached groups = least_prefix (λ logged. logged.acks.first) (λ logged. logged.acks.second) (λ logged. logged.acks.third) groups

-- An element that passes wherever the one in its place did leaves the prefix at least as long.
pub prefix_kept : {X : Type 0} (p : X → Bool) (xs : List X) (i : ℕ) (x y : X) → slice_get xs i ≡ Some x → (p x ≡ true → p y ≡ true) → prefix_len p xs ≤ prefix_len p (set xs i y)
prefix_kept p [] i x y at h = omega arith
prefix_kept p (z ∷ zs) zero x y at h = by (p z) (p y) refl refl
  where
    by : (b c : Bool) → p z ≡ b → p y ≡ c → cond b (1 + prefix_len p zs) 0 ≤ cond c (1 + prefix_len p zs) 0
    by true true is_b is_c = omega arith
    by true false is_b is_c = let e : p y ≡ true = h (cc (at, is_b)) in absurd (cc (e, is_c))
    by false c is_b is_c = omega arith
prefix_kept p (z ∷ zs) (suc i) x y at h = by (p z) (prefix_kept p zs i x y at h)
  where
    by : (b : Bool) → prefix_len p zs ≤ prefix_len p (set zs i y) → cond b (1 + prefix_len p zs) 0 ≤ cond b (1 + prefix_len p (set zs i y)) 0
    by true rest = omega (arith, rest)
    by false rest = omega arith

or_kept : (a b : Bool) → a ≡ true → a || b ≡ true
or_kept true b h = refl
or_kept false b h = absurd (cc h)

has_kept : (acks : Acks) (store s : ℕ) → has acks s ≡ true → has (with_ack acks store) s ≡ true
has_kept acks store s h = by (nat_eq s 1) (nat_eq s 2) (nat_eq s 3) h
  where
    by : (x y z : Bool) → cond x acks.first (cond y acks.second (cond z acks.third false)) ≡ true
        → cond x (acks.first || nat_eq store 1) (cond y (acks.second || nat_eq store 2) (cond z (acks.third || nat_eq store 3) false)) ≡ true
    by true y z h = or_kept acks.first (nat_eq store 1) h
    by false true z h = or_kept acks.second (nat_eq store 2) h
    by false false true h = or_kept acks.third (nat_eq store 3) h
    by false false false h = absurd (cc h)

-- An acknowledgement shortens no prefix.
pub reached_acked : (groups : List Logged) (store seq s : ℕ) → reached groups s ≤ reached (acked_at groups store seq) s
reached_acked groups store seq s = by (nat_eq seq 0) (slice_get groups (seq - 1)) refl
  where
    by : (b : Bool) (there : Option Logged) → slice_get groups (seq - 1) ≡ there → reached groups s ≤ reached (cond b groups (acked_there groups store (seq - 1) there)) s
    by true there is = omega arith
    by false None is = omega arith
    by false (Some logged) is = prefix_kept (λ logged. has logged.acks s) groups (seq - 1) logged (record logged { acks = with_ack logged.acks store }) is (has_kept logged.acks store s)

pub acked_more : (old new slice : List Logged) (store seq s from : ℕ) → new ≡ acked_at old store seq → slice ≡ new → from ≡ reached old s → from ≤ reached slice s
acked_more old new slice store seq s from a b f =
    subst (λ n. n ≤ reached slice s) (sym f) (subst (λ l. reached old s ≤ reached l s) (sym (b ∙ a)) (reached_acked old store seq s))

-- A prefix is no longer than the log.
pub prefix_within : (groups slice : List Logged) (p : Logged → Bool) (n : ℕ) → n ≡ prefix_len p groups → slice ≡ groups → n ≤ length slice
prefix_within groups slice p n is same =
    subst (λ m. m ≤ length slice) (sym is) (subst (λ l. prefix_len p groups ≤ length l) (sym same) (prefix_len-le-length p groups))

-- There are the stores 1 to 3 alone.
pub reached_other : (groups : List Logged) (store : ℕ) → store ≢ 1 → store ≢ 2 → store ≢ 3 → 0 ≡ reached groups store
reached_other [] store a b c = refl
reached_other (l ∷ ls) store a b c = by (nat_eq store 1) (nat_eq store 2) (nat_eq store 3) refl refl refl
  where
    by : (x y z : Bool) → nat_eq store 1 ≡ x → nat_eq store 2 ≡ y → nat_eq store 3 ≡ z
        → 0 ≡ cond (cond x l.acks.first (cond y l.acks.second (cond z l.acks.third false))) (1 + reached ls store) 0
    by true y z is_x is_y is_z = absurd (grind (arith, nat_tests))
    by false true z is_x is_y is_z = absurd (grind (arith, nat_tests))
    by false false true is_x is_y is_z = absurd (grind (arith, nat_tests))
    by false false false is_x is_y is_z = refl

-- A group that no store has acknowledged makes no prefix longer.
pub prefix_ends : {X : Type 0} (p : X → Bool) (xs : List X) (y : X) → p y ≡ false → prefix_len p (xs ++ y ∷ []) ≡ prefix_len p xs
prefix_ends p [] y h = ap (λ b. cond b (1 + prefix_len p []) 0) h
prefix_ends p (x ∷ xs) y h = ap (λ n. cond (p x) (1 + n) 0) (prefix_ends p xs y h)

-- The prefix that all three acknowledged is in that of each store.
pub durable_within : (groups : List Logged) (n first second third : ℕ) → n ≡ durable_count groups → first ≡ reached groups 1 → second ≡ reached groups 2 → third ≡ reached groups 3 → (n ≤ first) × (n ≤ second) × (n ≤ third)
durable_within groups n first second third is a b d =
    let least : min (min (reached groups 1) (reached groups 2)) (reached groups 3) ≡ durable_count groups = least_reached groups in
    (omega (arith, least, is, a), omega (arith, least, is, b), omega (arith, least, is, d))

-- And it is no longer than the log.
pub durable_short : (groups : List Logged) (n : ℕ) → n ≡ durable_count groups → n ≤ length groups
durable_short groups n is = omega (arith, is, prefix_len-le-length (λ l. has_all l.acks) groups)

-- What is left of a prefix behind some of its elements.
pub prefix_left : (groups : List Logged) (store n from : ℕ) → from ≡ reached groups store → n ≤ from → from - n ≡ reached (drop n groups) store
prefix_left groups store n from is less = omega (arith, is, less, prefix_split (λ l. has l.acks store) groups n (omega (arith, is, less)))
