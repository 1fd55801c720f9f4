-- What is asked of a log is answered after its durable groups went as before.
use Rattle.std.proofs.Common.{◌≡◌, ◌≤◌, ◌<◌, ◌+◌, ◌-◌, ℕ, Bool, true, false, cond, ◌&&◌, not, nat_eq, nat_le, nat_lt, List, [], ◌∷◌, map, take, drop, slice_get, length-drop, Option, Some, None, suc, zero, refl, sym, ap, ◌∙◌, arith}
use Rattle.std.specs.List.{filter}
use Rattle.std.proofs.lemmas.Bool.Decides.{nat_tests}
use Rattle.log_writer.specs.declared.acks.Acks.{Acks}
use Rattle.log_writer.specs.declared.logged.Logged.{Logged}
use Rattle.log_writer.specs.Acks.{all_acks, has, has_all, least_lacking}
use Rattle.log_writer.specs.Log.{Log, IsLog, durable_count, durable_seq, durable_stamp, is_marked, lacking, lacking_of, last_seq, last_stamp, let_go, marked_of, numbered, placed, resent, settled, settled_before, stamp_at, unacked, was_let_go}
use Rattle.log_writer.proofs.OrderLemmas.{last_dropped, last_is, last_of, order_dropped}
use Rattle.log_writer.proofs.PrefixLemmas.{durable_short}

-- ---- behind a front

get_behind : {X : Type 0} (xs : List X) (n i : ℕ) → slice_get (drop n xs) i ≡ slice_get xs (n + i)
get_behind xs zero i = let same : i ≡ 0 + i = omega arith in ap (λ (k : ℕ). slice_get xs k) same
get_behind [] (suc n) i = refl
get_behind (x ∷ xs) (suc n) i = let same : suc (n + i) ≡ suc n + i = omega arith in get_behind xs n i ∙ ap (λ (k : ℕ). slice_get (x ∷ xs) k) same

placed_behind : (groups : List Logged) (n place : ℕ) → n < place → placed (drop n groups) (place - n) ≡ placed groups place
placed_behind groups n place less = by (nat_eq (place - n) 0) (nat_eq place 0) refl refl
  where
    by : (a b : Bool) → nat_eq (place - n) 0 ≡ a → nat_eq place 0 ≡ b → cond a None (slice_get (drop n groups) (place - n - 1)) ≡ cond b None (slice_get groups (place - 1))
    by true b is_a is_b = absurd (let none : place - n ≡ 0 = grind (arith, nat_tests) in omega (arith, none, less))
    by false true is_a is_b = absurd (let none : place ≡ 0 = grind (arith, nat_tests) in omega (arith, none, less))
    by false false is_a is_b = let same : n + (place - n - 1) ≡ place - 1 = omega (arith, less) in get_behind groups n (place - n - 1) ∙ ap (λ (k : ℕ). slice_get groups k) same

last_behind : (before n : ℕ) (groups : List Logged) → last_of (last_of before (take n groups)) (drop n groups) ≡ last_of before groups
last_behind before zero groups = refl
last_behind before (suc n) [] = refl
last_behind before (suc n) (l ∷ ls) = last_behind l.group.stamp.0 n ls

-- ---- behind the durable front

none_left : (groups : List Logged) → durable_count (drop (durable_count groups) groups) ≡ 0
none_left [] = refl
none_left (l ∷ ls) = by (has_all l.acks) refl (none_left ls)
  where
    by : (b : Bool) → has_all l.acks ≡ b → durable_count (drop (durable_count ls) ls) ≡ 0 → durable_count (drop (cond b (1 + durable_count ls) 0) (l ∷ ls)) ≡ 0
    by true is rest = let one : 1 + durable_count ls ≡ suc (durable_count ls) = omega arith in ap (λ (n : ℕ). durable_count (drop n (l ∷ ls))) one ∙ rest
    by false is rest = ap (λ (b : Bool). cond b (1 + durable_count ls) 0) is

all_is : (acks : Acks) → has_all acks ≡ true → acks ≡ all_acks
all_is acks h = by acks.first acks.second acks.third refl refl refl h
  where
    by : (a b c : Bool) → acks.first ≡ a → acks.second ≡ b → acks.third ≡ c → (a && (b && c)) ≡ true → acks ≡ all_acks
    by true true true is_a is_b is_c h = λ i. record { first = is_a i; second = is_b i; third = is_c i }
    by true true false is_a is_b is_c h = absurd (cc h)
    by true false c is_a is_b is_c h = absurd (cc h)
    by false b c is_a is_b is_c h = absurd (cc h)

-- A group of the durable front is acknowledged by all.
durable_at : (groups : List Logged) (i : ℕ) → i < durable_count groups → (l : Logged) × (slice_get groups i ≡ Some l) × (l.acks ≡ all_acks)
durable_at [] i less = absurd (omega (arith, less))
durable_at (l ∷ ls) i less = by (has_all l.acks) refl i less (durable_at ls)
  where
    by : (b : Bool) → has_all l.acks ≡ b → (i : ℕ) → i < cond b (1 + durable_count ls) 0 → ((i : ℕ) → i < durable_count ls → (x : Logged) × (slice_get ls i ≡ Some x) × (x.acks ≡ all_acks))
        → (x : Logged) × (slice_get (l ∷ ls) i ≡ Some x) × (x.acks ≡ all_acks)
    by false is i less rest = absurd (omega (arith, less))
    by true is zero less rest = (l, refl, all_is l.acks is)
    by true is (suc i) less rest = rest i (omega (arith, less))

placed_durable : (groups : List Logged) (place : ℕ) → 1 ≤ place → place ≤ durable_count groups → (l : Logged) × (placed groups place ≡ Some l) × (l.acks ≡ all_acks)
placed_durable groups place some less = by (nat_eq place 0) refl
  where
    at : (l : Logged) × (slice_get groups (place - 1) ≡ Some l) × (l.acks ≡ all_acks)
    at = durable_at groups (place - 1) (omega (arith, some, less))

    by : (b : Bool) → nat_eq place 0 ≡ b → (l : Logged) × (cond b None (slice_get groups (place - 1)) ≡ Some l) × (l.acks ≡ all_acks)
    by true is = absurd (let none : place ≡ 0 = grind (arith, nat_tests) in omega (arith, none, some))
    by false is = at

-- ---- what is asked

pub same_durable : (log : Log) → durable_seq (let_go log) ≡ durable_seq log
same_durable log = omega (arith, none_left log.groups)

pub same_stamp : (log : Log) → durable_stamp (let_go log) ≡ durable_stamp log
same_stamp log = ap (λ (n : ℕ). stamp_at (durable_stamp log) (drop (durable_count log.groups) log.groups) n) (none_left log.groups)

pub same_settled : (log : Log) (scalar : ℕ) → settled (let_go log) scalar ≡ settled log scalar
same_settled log scalar =
    let n : ℕ = durable_count log.groups in
    let same : n + 0 ≡ n = omega arith in
    ap (λ (o : Option Logged). settled_before o scalar) (ap (λ (k : ℕ). slice_get (drop n log.groups) k) (none_left log.groups) ∙ get_behind log.groups n 0 ∙ ap (λ (k : ℕ). slice_get log.groups k) same)

pub same_last : (log : Log) → last_seq (let_go log) ≡ last_seq log
same_last log = omega (arith, durable_short log.groups (durable_count log.groups) refl, length-drop (durable_count log.groups) log.groups)

pub same_last_stamp : (log : Log) → last_stamp (let_go log) ≡ last_stamp log
same_last_stamp log =
    let n : ℕ = durable_count log.groups in
    last_is (durable_stamp log) (drop n log.groups) ∙ ap (λ (k : ℕ). last_of k (drop n log.groups)) (last_dropped log.gone_stamp log.groups n (durable_short log.groups n refl))
    ∙ last_behind log.gone_stamp n log.groups ∙ sym (last_is log.gone_stamp log.groups)

pub still_log : (log : Log) → IsLog log → IsLog (let_go log)
still_log log h = order_dropped log.writer log.gone log.gone_stamp log.groups (durable_count log.groups) (durable_short log.groups (durable_count log.groups) refl) h

-- A question on a number, by what is answered of one that was let go, and of one that is there or isn't.
module _ {X : Type 0} (gone_says : X) (says : Option Logged → X) (all : (l : Logged) → l.acks ≡ all_acks → says (Some l) ≡ gone_says) where
  pub same_of : (log : Log) (seq : ℕ) → cond (was_let_go (let_go log) seq) gone_says (says (numbered (let_go log) seq)) ≡ cond (was_let_go log seq) gone_says (says (numbered log seq))
  same_of log seq = by (nat_lt 0 seq) (nat_le seq (log.gone + n)) (nat_le seq log.gone) refl refl refl
    where
      n : ℕ
      n = durable_count log.groups

      by : (a b d : Bool) → nat_lt 0 seq ≡ a → nat_le seq (log.gone + n) ≡ b → nat_le seq log.gone ≡ d
          → cond (a && b) gone_says (says (placed (drop n log.groups) (seq - (log.gone + n)))) ≡ cond (a && d) gone_says (says (placed log.groups (seq - log.gone)))
      by false b d is_a is_b is_d =
          let nil : seq ≡ 0 = grind (arith, nat_tests) in
          let first : seq - (log.gone + n) ≡ 0 = omega (arith, nil) in
          let second : seq - log.gone ≡ 0 = omega (arith, nil) in
          ap (λ (k : ℕ). says (placed (drop n log.groups) k)) first ∙ sym (ap (λ (k : ℕ). says (placed log.groups k)) second)
      by true true true is_a is_b is_d = refl
      by true true false is_a is_b is_d =
          let some : log.gone < seq = grind (arith, nat_tests) in
          let most : seq ≤ log.gone + n = grind (arith, nat_tests) in
          let at = placed_durable log.groups (seq - log.gone) (omega (arith, some)) (omega (arith, most)) in
          sym (ap says at.1 ∙ all at.0 at.2)
      by true false true is_a is_b is_d =
          let most : seq ≤ log.gone = grind (arith, nat_tests) in
          let more : log.gone + n < seq = grind (arith, nat_tests) in absurd (omega (arith, most, more))
      by true false false is_a is_b is_d =
          let more : log.gone + n < seq = grind (arith, nat_tests) in
          let same : seq - (log.gone + n) ≡ seq - log.gone - n = omega arith in
          ap (λ (k : ℕ). says (placed (drop n log.groups) k)) same ∙ ap says (placed_behind log.groups n (seq - log.gone) (omega (arith, more)))

pub same_marks : (log : Log) (seq store : ℕ) → is_marked (let_go log) seq store ≡ is_marked log seq store
same_marks log seq store = same_of (has all_acks store) (λ o. marked_of o store) (λ l is. ap (λ (a : Acks). has a store) is) log seq

pub same_lacking : (log : Log) (seq : ℕ) → lacking (let_go log) seq ≡ lacking log seq
same_lacking log seq = same_of None lacking_of (λ l is. ap (λ (a : Acks). least_lacking a.first a.second a.third) is) log seq

pub same_unacked : (groups : List Logged) (store : ℕ) → has all_acks store ≡ true → unacked (drop (durable_count groups) groups) store ≡ unacked groups store
same_unacked [] store is = refl
same_unacked (l ∷ ls) store is = by (has_all l.acks) refl (same_unacked ls store is)
  where
    by : (b : Bool) → has_all l.acks ≡ b → unacked (drop (durable_count ls) ls) store ≡ unacked ls store
        → unacked (drop (cond b (1 + durable_count ls) 0) (l ∷ ls)) store ≡ map (λ logged. logged.group) (cond (not (has l.acks store)) (l ∷ filter (λ logged. not (has logged.acks store)) ls) (filter (λ logged. not (has logged.acks store)) ls))
    by true all rest =
        let one : 1 + durable_count ls ≡ suc (durable_count ls) = omega arith in
        let here : has l.acks store ≡ true = ap (λ (a : Acks). has a store) (all_is l.acks all) ∙ is in
        ap (λ (n : ℕ). unacked (drop n (l ∷ ls)) store) one ∙ rest
        ∙ sym (ap (λ (b : Bool). map (λ (logged : Logged). logged.group) (cond (not b) (l ∷ filter (λ logged. not (has logged.acks store)) ls) (filter (λ logged. not (has logged.acks store)) ls))) here)
    by false all rest = refl

pub same_resent : (log : Log) (store : ℕ) → has all_acks store ≡ true → resent (let_go log).groups store ≡ resent log.groups store
same_resent log store is = ap (take 16) (same_unacked log.groups store is)
