-- What a master knows to be durable, each of the three log stores has acknowledged to it.
use Rattle.std.proofs.Common.{◌≡◌, ◌<◌, ◌≤◌, ◌+◌, ◌-◌, ◌&&◌, ℕ, zero, suc, Bool, true, false, cond, nat_eq, nat_le, nat_lt, List, [], ◌∷◌, slice_get, Option, Some, None, refl, sym, subst, inl, inr, arith}
use Rattle.std.proofs.lemmas.Bool.Decides.{nat_tests}
use Rattle.std.specs.List.{prefix_len}
use Rattle.log_writer.specs.declared.acks.Acks.{Acks}
use Rattle.log_writer.specs.declared.logged.Logged.{Logged}
use Rattle.log_writer.specs.Acks.{all_acks, has, has_all}
use Rattle.log_writer.specs.Log.{Log, durable_count, durable_seq, is_marked, marked_of, new_log, placed}
use Rattle.tm_data.specs.declared.transaction.Writer.{Writer}
use Rattle.master_model.specs.Causes.{is_noted}
use Rattle.master_model.specs.State.{Life}
use Rattle.world_laws.specs.Beside.{durable_by}
use Rattle.world_laws.specs.Kept.{IsOneOfThree}

record Passes {X : Type 0} (p : X → Bool) (xs : List X) (i : ℕ) : Type 0 where
  one : X
  there : slice_get xs i ≡ Some one
  passes : p one ≡ true

-- Each element of a prefix passes its test.
in_prefix : {X : Type 0} (p : X → Bool) (xs : List X) (i : ℕ) → i < prefix_len p xs → Passes p xs i
in_prefix p [] i h = absurd (omega (arith, h))
in_prefix p (x ∷ xs) zero h = by (p x) refl h
  where
    by : (b : Bool) → p x ≡ b → 0 < cond b (1 + prefix_len p xs) 0 → Passes p (x ∷ xs) 0
    by true is h = record { one = x; there = refl; passes = is }
    by false is h = absurd (omega (arith, h))
in_prefix p (x ∷ xs) (suc i) h = by (p x) h (in_prefix p xs i)
  where
    by : (b : Bool) → suc i < cond b (1 + prefix_len p xs) 0 → (i < prefix_len p xs → Passes p xs i) → Passes p (x ∷ xs) (suc i)
    by true h rest = let r = rest (omega (arith, h)) in record { one = r.one; there = r.there; passes = r.passes }
    by false h rest = absurd (omega (arith, h))

has_each : (a : Acks) (store : ℕ) → IsOneOfThree store → has_all a ≡ true → has a store ≡ true
has_each a store of h = by a.first a.second a.third h of
  where
    by : (x y z : Bool) → x && (y && z) ≡ true → IsOneOfThree store → cond (nat_eq store 1) x (cond (nat_eq store 2) y (cond (nat_eq store 3) z false)) ≡ true
    by true true true h (inl is) = subst (λ (k : ℕ). cond (nat_eq k 1) true (cond (nat_eq k 2) true (cond (nat_eq k 3) true false)) ≡ true) (sym is) refl
    by true true true h (inr (inl is)) = subst (λ (k : ℕ). cond (nat_eq k 1) true (cond (nat_eq k 2) true (cond (nat_eq k 3) true false)) ≡ true) (sym is) refl
    by true true true h (inr (inr is)) = subst (λ (k : ℕ). cond (nat_eq k 1) true (cond (nat_eq k 2) true (cond (nat_eq k 3) true false)) ≡ true) (sym is) refl
    by true true false h of = absurd (cc h)
    by true false z h of = absurd (cc h)
    by false y z h of = absurd (cc h)

marked_at : (groups : List Logged) (place store : ℕ) (l : Logged) → 1 ≤ place → slice_get groups (place - 1) ≡ Some l → has l.acks store ≡ true → marked_of (placed groups place) store ≡ true
marked_at groups place store l one there has_it = by (nat_eq place 0) refl
  where
    by : (b : Bool) → nat_eq place 0 ≡ b → marked_of (cond b None (slice_get groups (place - 1))) store ≡ true
    by true is = absurd (let none : place ≡ 0 = grind (arith, nat_tests) in omega (arith, one, none))
    by false is = subst (λ (o : Option Logged). marked_of o store ≡ true) (sym there) has_it

pub durable_marked : (log : Log) (store : ℕ) → IsOneOfThree store → 1 ≤ durable_seq log → is_marked log (durable_seq log) store ≡ true
durable_marked log store of one = by (nat_lt 0 (durable_seq log)) (nat_le (durable_seq log) log.gone) refl refl
  where
    count : ℕ
    count = durable_count log.groups

    place : durable_seq log - log.gone ≡ count
    place = omega arith

    there : 1 ≤ count → marked_of (placed log.groups (durable_seq log - log.gone)) store ≡ true
    there some =
        let last = in_prefix (λ (l : Logged). has_all l.acks) log.groups (count - 1) (omega (arith, some)) in
        subst (λ (k : ℕ). marked_of (placed log.groups k) store ≡ true) (sym place) (marked_at log.groups count store last.one some last.there (has_each last.one.acks store of last.passes))

    by : (a c : Bool) → nat_lt 0 (durable_seq log) ≡ a → nat_le (durable_seq log) log.gone ≡ c → cond (a && c) (has all_acks store) (marked_of (placed log.groups (durable_seq log - log.gone)) store) ≡ true
    by true true is_a is_c = has_each all_acks store of refl
    by true false is_a is_c = there (let more : log.gone < log.gone + count = grind (arith, nat_tests) in omega (arith, more))
    by false c is_a is_c = absurd (let none : log.gone + count ≤ 0 = grind (arith, nat_tests) in omega (arith, none, one))

-- The last group that a life knew to be durable is marked, if there is one.
pub reached_marked : (o : Option Life) (store : ℕ) → IsOneOfThree store → 1 ≤ durable_by o → is_noted o (durable_by o) store ≡ true
reached_marked None store of one = absurd (omega (arith, one))
reached_marked (Some l) store of one = durable_marked l.work.log store of one

-- Of a log without a group none is marked.
pub none_marked : (writer : Writer) (seq store : ℕ) → is_marked (new_log writer) seq store ≡ true → ⊥
none_marked writer seq store h = by (nat_lt 0 seq) (nat_le seq 0) (nat_eq (seq - 0) 0) refl refl h
  where
    no_groups : List Logged
    no_groups = []

    no : false ≡ true → ⊥
    no h = cc h

    by : (a b d : Bool) → nat_lt 0 seq ≡ a → nat_le seq 0 ≡ b → cond (a && b) (has all_acks store) (marked_of (cond d None (slice_get no_groups (seq - 0 - 1))) store) ≡ true → ⊥
    by true true d is_a is_b h = absurd (let more : 0 < seq = grind (arith, nat_tests) in let none : seq ≤ 0 = grind (arith, nat_tests) in omega (arith, more, none))
    by true false true is_a is_b h = no h
    by true false false is_a is_b h = no h
    by false b true is_a is_b h = no h
    by false b false is_a is_b h = no h
