-- Facts on the order of the groups.
use Rattle.std.proofs.Common.{◌≡◌, ◌≤◌, ◌<◌, ◌+◌, ◌-◌, ◌^◌, ℕ, Bool, true, false, cond, ◌&&◌, ◌||◌, nat_eq, nat_lt, List, [], ◌∷◌, ◌++◌, length, map, take, drop, set, slice_get, length-set, length-drop, Option, Some, None, suc, zero, refl, sym, subst, length-append, append_assoc, ap, ◌∙◌, arith, inl, inr}
use Rattle.std.specs.Prelude.{◌⊎◌}
use Rattle.std.specs.List.{prefix_len}
use Rattle.std.proofs.lemmas.List.{append-nil}
use Rattle.std.proofs.lemmas.Bool.Decides.{nat_tests}
use Rattle.tm_data.specs.declared.log.Group.{Group}
use Rattle.tm_data.specs.declared.transaction.Writer.{Writer}
use Rattle.log_writer.specs.declared.acks.Acks.{Acks}
use Rattle.log_writer.specs.declared.logged.Logged.{Logged}
use Rattle.log_writer.specs.Acks.{all_acks, has, has_all, no_acks, with_ack}
use Rattle.log_writer.specs.Inside.{IsKept}
use Rattle.log_writer.specs.Log.{AreNext, Log, InOrder, IsLog, acked, acked_at, acked_there, appended, appended_all, durable_count, durable_seq, is_marked, marked_of, numbered, placed, reached, settled, settled_before, stamp_at, stamp_of, unacknowledged, was_let_go}
use Rattle.log_writer.proofs.PrefixLemmas.{durable_short, durable_within, prefix_ends, prefix_kept, prefix_left}

-- ---- one more group

-- the last stamp, by recursion
abbrev pub last_of : ℕ → List Logged → ℕ
last_of after [] = after
last_of after (l ∷ ls) = last_of l.group.stamp.0 ls

last_at : (l : Logged) (ls : List Logged) → stamp_of (slice_get (l ∷ ls) (length ls)) ≡ last_of l.group.stamp.0 ls
last_at l [] = refl
last_at l (x ∷ ls) = last_at x ls

pub last_is : (before : ℕ) (groups : List Logged) → stamp_at before groups (length groups) ≡ last_of before groups
last_is before [] = refl
last_is before (l ∷ ls) = by (nat_eq (suc (length ls)) 0) refl
  where
    by : (b : Bool) → nat_eq (suc (length ls)) 0 ≡ b → cond b before (stamp_of (slice_get (l ∷ ls) (suc (length ls) - 1))) ≡ last_of l.group.stamp.0 ls
    by true is = absurd (grind (arith, nat_tests))
    by false is = let same : suc (length ls) - 1 ≡ length ls = omega arith in ap (λ (n : ℕ). stamp_of (slice_get (l ∷ ls) n)) same ∙ last_at l ls

order_push : (writer : Writer) (seq after : ℕ) (groups : List Logged) (l : Logged) → InOrder writer seq after groups → l.group.writer ≡ writer → l.group.seq ≡ seq + length groups → last_of after groups < l.group.stamp.0
    → InOrder writer seq after (groups ++ l ∷ [])
order_push writer seq after [] l h own next later = (own, omega (arith, next), later, tt)
order_push writer seq after (x ∷ groups) l h own next later = (h.0, h.1, h.2, order_push writer (seq + 1) x.group.stamp.0 groups l h.3 own (omega (arith, next)) later)

pub order_appended : (writer : Writer) (gone before : ℕ) (groups : List Logged) (l : Logged) → InOrder writer (gone + 1) before groups → l.group.writer ≡ writer → l.group.seq ≡ gone + length groups + 1
    → stamp_at before groups (length groups) < l.group.stamp.0 → InOrder writer (gone + 1) before (groups ++ l ∷ [])
order_appended writer gone before groups l h own next later = order_push writer (gone + 1) before groups l h own (omega (arith, next)) (omega (arith, later, last_is before groups))

-- several more groups
order_more : (writer : Writer) (seq after last : ℕ) (groups : List Logged) (gs : List Group) → InOrder writer seq after groups → AreNext writer last (last_of after groups) gs → last + 1 ≡ seq + length groups → InOrder writer seq after (groups ++ map unacknowledged gs)
order_more writer seq after last groups [] h next at = subst (InOrder writer seq after) (sym (append-nil groups)) h
order_more writer seq after last groups (g ∷ gs) h next at =
    subst (InOrder writer seq after) (append_assoc groups (unacknowledged g ∷ []) (map unacknowledged gs))
    (order_more writer seq after (last + 1) (groups ++ unacknowledged g ∷ []) gs (order_push writer seq after groups (unacknowledged g) h next.0 (omega (arith, next.1, at)) next.2)
    (subst (λ (n : ℕ). AreNext writer (last + 1) n gs) (sym (last_pushed after groups (unacknowledged g))) next.3) (omega (arith, at, length-append groups (unacknowledged g ∷ []))))
  where
    last_pushed : (after : ℕ) (ls : List Logged) (l : Logged) → last_of after (ls ++ l ∷ []) ≡ l.group.stamp.0
    last_pushed after [] l = refl
    last_pushed after (x ∷ ls) l = last_pushed x.group.stamp.0 ls l

pub order_all : (writer : Writer) (gone before : ℕ) (groups : List Logged) (gs : List Group) → InOrder writer (gone + 1) before groups → AreNext writer (gone + length groups) (stamp_at before groups (length groups)) gs
    → InOrder writer (gone + 1) before (groups ++ map unacknowledged gs)
order_all writer gone before groups gs h next =
    order_more writer (gone + 1) before (gone + length groups) groups gs h (subst (λ (n : ℕ). AreNext writer (gone + length groups) n gs) (last_is before groups) next) (omega arith)

-- several groups that are appended one after another
pub appended_row : (log : Log) (gs : List Group) → appended_all log gs ≡ record log { groups = log.groups ++ map unacknowledged gs }
appended_row log [] = ap (λ (ls : List Logged). record log { groups = ls }) (sym (append-nil log.groups))
appended_row log (g ∷ gs) = appended_row (appended log g) gs ∙ ap (λ (ls : List Logged). record log { groups = ls }) (append_assoc log.groups (unacknowledged g ∷ []) (map unacknowledged gs))

-- ---- the front goes

pub last_dropped : (before : ℕ) (groups : List Logged) (n : ℕ) → n ≤ length groups → stamp_at before groups n ≡ last_of before (take n groups)
last_dropped before groups zero less = refl
last_dropped before [] (suc n) less = absurd (omega (arith, less))
last_dropped before (l ∷ ls) (suc n) less = by (nat_eq (suc n) 0) refl
  where
    at : (l : Logged) (ls : List Logged) (n : ℕ) → n ≤ length ls → stamp_of (slice_get (l ∷ ls) n) ≡ last_of l.group.stamp.0 (take n ls)
    at l ls zero less = refl
    at l [] (suc n) less = absurd (omega (arith, less))
    at l (x ∷ ls) (suc n) less = at x ls n (omega (arith, less))

    by : (b : Bool) → nat_eq (suc n) 0 ≡ b → cond b before (stamp_of (slice_get (l ∷ ls) (suc n - 1))) ≡ last_of l.group.stamp.0 (take n ls)
    by true is = absurd (grind (arith, nat_tests))
    by false is = let same : suc n - 1 ≡ n = omega arith in ap (λ (n : ℕ). stamp_of (slice_get (l ∷ ls) n)) same ∙ at l ls n (omega (arith, less))

order_behind : (writer : Writer) (seq after : ℕ) (groups : List Logged) (n : ℕ) → n ≤ length groups → InOrder writer seq after groups → InOrder writer (seq + n) (last_of after (take n groups)) (drop n groups)
order_behind writer seq after groups zero less h = let same : seq ≡ seq + 0 = omega arith in subst (λ (k : ℕ). InOrder writer k after groups) same h
order_behind writer seq after [] (suc n) less h = absurd (omega (arith, less))
order_behind writer seq after (l ∷ ls) (suc n) less h =
    let same : seq + 1 + n ≡ seq + suc n = omega arith in subst (λ (k : ℕ). InOrder writer k (last_of l.group.stamp.0 (take n ls)) (drop n ls)) same (order_behind writer (seq + 1) l.group.stamp.0 ls n (omega (arith, less)) h.3)

pub order_dropped : (writer : Writer) (gone before : ℕ) (groups : List Logged) (n : ℕ) → n ≤ length groups → InOrder writer (gone + 1) before groups → InOrder writer (gone + n + 1) (stamp_at before groups n) (drop n groups)
order_dropped writer gone before groups n less h =
    let same : gone + 1 + n ≡ gone + n + 1 = omega arith in
    subst (λ (k : ℕ). InOrder writer k (stamp_at before groups n) (drop n groups)) same (subst (λ (k : ℕ). InOrder writer (gone + 1 + n) k (drop n groups)) (sym (last_dropped before groups n less)) (order_behind writer (gone + 1) before groups n less h))

-- ---- one more acknowledgement

pub order_set : (writer : Writer) (seq after : ℕ) (groups : List Logged) (i : ℕ) (x y : Logged) → slice_get groups i ≡ Some x → y.group ≡ x.group → InOrder writer seq after groups → InOrder writer seq after (set groups i y)
order_set writer seq after [] i x y found same h = tt
order_set writer seq after (z ∷ groups) zero x y found same h =
    let one : z ≡ x = cc found in
    let it : y.group ≡ z.group = same ∙ ap (λ (l : Logged). l.group) (sym one) in
    subst (λ (g : Group). (g.writer ≡ writer) × (g.seq ≡ seq) × (after < g.stamp.0) × InOrder writer (seq + 1) g.stamp.0 groups) (sym it) h
order_set writer seq after (z ∷ groups) (suc i) x y found same h = (h.0, h.1, h.2, order_set writer (seq + 1) z.group.stamp.0 groups i x y found same h.3)

pub order_acked : (writer : Writer) (from after : ℕ) (groups : List Logged) (store seq : ℕ) → InOrder writer from after groups → InOrder writer from after (acked_at groups store seq)
order_acked writer from after groups store seq h = by (nat_eq seq 0) (slice_get groups (seq - 1)) refl
  where
    by : (b : Bool) (there : Option Logged) → slice_get groups (seq - 1) ≡ there → InOrder writer from after (cond b groups (acked_there groups store (seq - 1) there))
    by true there is = h
    by false None is = h
    by false (Some logged) is = order_set writer from after groups (seq - 1) logged (record logged { acks = with_ack logged.acks store }) is refl h

-- ---- stamps

pub order_stamp : (writer : Writer) (seq after : ℕ) (groups : List Logged) (i : ℕ) (l : Logged) → InOrder writer seq after groups → slice_get groups i ≡ Some l → after < l.group.stamp.0
order_stamp writer seq after [] i l h found = absurd (cc found)
order_stamp writer seq after (x ∷ groups) zero l h found = let one : x ≡ l = cc found in omega (arith, h.2, ap (λ (y : Logged). y.group.stamp.0) one)
order_stamp writer seq after (x ∷ groups) (suc i) l h found = omega (arith, h.2, order_stamp writer (seq + 1) x.group.stamp.0 groups i l h.3 found)

-- a later group has the greater stamp
order_later : (writer : Writer) (seq after : ℕ) (groups : List Logged) (i j : ℕ) (x y : Logged) → InOrder writer seq after groups → slice_get groups i ≡ Some x → slice_get groups j ≡ Some y → i ≤ j → x.group.stamp.0 ≤ y.group.stamp.0
order_later writer seq after [] i j x y h is_x is_y less = absurd (cc is_x)
order_later writer seq after (z ∷ groups) zero zero x y h is_x is_y less = let one : x ≡ y = cc (is_x, is_y) in omega (arith, ap (λ (l : Logged). l.group.stamp.0) one)
order_later writer seq after (z ∷ groups) zero (suc j) x y h is_x is_y less =
    let one : z ≡ x = cc is_x in omega (arith, ap (λ (l : Logged). l.group.stamp.0) one, order_stamp writer (seq + 1) z.group.stamp.0 groups j y h.3 is_y)
order_later writer seq after (z ∷ groups) (suc i) zero x y h is_x is_y less = absurd (omega (arith, less))
order_later writer seq after (z ∷ groups) (suc i) (suc j) x y h is_x is_y less = order_later writer (seq + 1) z.group.stamp.0 groups i j x y h.3 is_x is_y (omega (arith, less))

-- what is behind a group of a list is in the list
found_before : (groups : List Logged) (i j : ℕ) (y : Logged) → slice_get groups j ≡ Some y → i ≤ j → (x : Logged) × (slice_get groups i ≡ Some x)
found_before [] i j y is less = absurd (cc is)
found_before (z ∷ groups) zero j y is less = (z, refl)
found_before (z ∷ groups) (suc i) zero y is less = absurd (omega (arith, less))
found_before (z ∷ groups) (suc i) (suc j) y is less = found_before groups i j y is (omega (arith, less))

placed_at : (groups : List Logged) (place : ℕ) (l : Logged) → placed groups place ≡ Some l → (1 ≤ place) × (slice_get groups (place - 1) ≡ Some l)
placed_at groups place l found = by (nat_eq place 0) refl found
  where
    by : (b : Bool) → nat_eq place 0 ≡ b → cond b None (slice_get groups (place - 1)) ≡ Some l → (1 ≤ place) × (slice_get groups (place - 1) ≡ Some l)
    by true is h = absurd (cc h)
    by false is h = (grind (arith, nat_tests), h)

-- What is settled is durable.
pub settled_durable : (log : Log) (scalar seq : ℕ) (l : Logged) → IsLog log → numbered log seq ≡ Some l → l.group.stamp.0 ≤ settled log scalar → seq ≤ durable_seq log
settled_durable log scalar seq l h found low = by (nat_lt (durable_seq log) seq) refl
  where
    count : ℕ
    count = durable_count log.groups

    at : (1 ≤ seq - log.gone) × (slice_get log.groups (seq - log.gone - 1) ≡ Some l)
    at = placed_at log.groups (seq - log.gone) l found

    by : (b : Bool) → nat_lt (durable_seq log) seq ≡ b → seq ≤ durable_seq log
    by true is =
        let above : log.gone + count < seq = grind (arith, nat_tests) in
        let less : count ≤ seq - log.gone - 1 = omega (arith, above) in
        let first = found_before log.groups count (seq - log.gone - 1) l at.1 less in
        let stamp : settled log scalar ≡ first.0.group.stamp.0 - 1 = ap (λ (o : Option Logged). settled_before o scalar) first.1 in
        absurd
        (omega (
          arith,
          low,
          stamp,
          order_stamp log.writer (log.gone + 1) log.gone_stamp log.groups count first.0 h first.1,
          order_later log.writer (log.gone + 1) log.gone_stamp log.groups count (seq - log.gone - 1) first.0 l h first.1 at.1 less,
        ))
    by false is = grind (arith, nat_tests)

-- ---- what is durable stays so

all_kept : (acks : Acks) (store : ℕ) → has_all acks ≡ true → has_all (with_ack acks store) ≡ true
all_kept acks store h = by acks.first acks.second acks.third h
  where
    by : (a b c : Bool) → (a && (b && c)) ≡ true → ((a || nat_eq store 1) && ((b || nat_eq store 2) && (c || nat_eq store 3))) ≡ true
    by true true true h = refl
    by true true false h = absurd (cc h)
    by true false c h = absurd (cc h)
    by false b c h = absurd (cc h)

count_acked : (groups : List Logged) (store seq : ℕ) → durable_count groups ≤ durable_count (acked_at groups store seq)
count_acked groups store seq = by (nat_eq seq 0) (slice_get groups (seq - 1)) refl
  where
    by : (b : Bool) (there : Option Logged) → slice_get groups (seq - 1) ≡ there → durable_count groups ≤ durable_count (cond b groups (acked_there groups store (seq - 1) there))
    by true there is = omega arith
    by false None is = omega arith
    by false (Some logged) is = prefix_kept (λ l. has_all l.acks) groups (seq - 1) logged (record logged { acks = with_ack logged.acks store }) is (all_kept logged.acks store)

pub durable_acked : (log : Log) (store seq : ℕ) → durable_seq log ≤ durable_seq (acked log store seq)
durable_acked log store seq = omega (arith, count_acked log.groups store (seq - log.gone))

pub durable_appended : (log : Log) (group : Group) → durable_seq (appended log group) ≡ durable_seq log
durable_appended log group = ap (λ (n : ℕ). log.gone + n) (prefix_ends (λ l. has_all l.acks) log.groups (unacknowledged group) refl)

-- ---- marks

-- a mark that is new is that of the acknowledgement
new_mark : (acks : Acks) (store s : ℕ) → has (with_ack acks store) s ≡ true → (has acks s ≡ true) ⊎ (s ≡ store)
new_mark acks store s h = by (nat_eq s 1) (nat_eq s 2) (nat_eq s 3) refl refl refl h
  where
    or_new : (a b : Bool) (k : ℕ) → nat_eq s k ≡ true → nat_eq store k ≡ b → (a || b) ≡ true → (a ≡ true) ⊎ (s ≡ store)
    or_new true b k is same h = inl refl
    or_new false true k is same h = inr (grind (arith, nat_tests))
    or_new false false k is same h = absurd (cc h)

    by : (x y z : Bool) → nat_eq s 1 ≡ x → nat_eq s 2 ≡ y → nat_eq s 3 ≡ z → cond x (acks.first || nat_eq store 1) (cond y (acks.second || nat_eq store 2) (cond z (acks.third || nat_eq store 3) false)) ≡ true
        → (cond x acks.first (cond y acks.second (cond z acks.third false)) ≡ true) ⊎ (s ≡ store)
    by true y z is_x is_y is_z h = or_new acks.first (nat_eq store 1) 1 is_x refl h
    by false true z is_x is_y is_z h = or_new acks.second (nat_eq store 2) 2 is_y refl h
    by false false true is_x is_y is_z h = or_new acks.third (nat_eq store 3) 3 is_z refl h
    by false false false is_x is_y is_z h = absurd (cc h)

mark_set : (groups : List Logged) (i j : ℕ) (x : Logged) (store s : ℕ) → slice_get groups i ≡ Some x → marked_of (slice_get (set groups i (record x { acks = with_ack x.acks store })) j) s ≡ true
    → (marked_of (slice_get groups j) s ≡ true) ⊎ ((j ≡ i) × (s ≡ store))
mark_set [] i j x store s found h = absurd (cc found)
mark_set (z ∷ groups) zero zero x store s found h = by (new_mark x.acks store s h)
  where
    by : (has x.acks s ≡ true) ⊎ (s ≡ store) → (has z.acks s ≡ true) ⊎ ((zero ≡ zero) × (s ≡ store))
    by (inl old) = let one : z ≡ x = cc found in inl (ap (λ (l : Logged). has l.acks s) one ∙ old)
    by (inr same) = inr (refl, same)
mark_set (z ∷ groups) zero (suc j) x store s found h = inl h
mark_set (z ∷ groups) (suc i) zero x store s found h = inl h
mark_set (z ∷ groups) (suc i) (suc j) x store s found h = by (mark_set groups i j x store s found h)
  where
    by : (marked_of (slice_get groups j) s ≡ true) ⊎ ((j ≡ i) × (s ≡ store)) → (marked_of (slice_get groups j) s ≡ true) ⊎ ((suc j ≡ suc i) × (s ≡ store))
    by (inl old) = inl old
    by (inr new) = inr (ap suc new.0, new.1)

placed_acked : (groups : List Logged) (store seq n s : ℕ) → marked_of (placed (acked_at groups store seq) n) s ≡ true → (marked_of (placed groups n) s ≡ true) ⊎ ((n ≡ seq) × (s ≡ store))
placed_acked groups store seq n s h = by (nat_eq n 0) (nat_eq seq 0) (slice_get groups (seq - 1)) refl refl refl h
  where
    by : (a b : Bool) (there : Option Logged) → nat_eq n 0 ≡ a → nat_eq seq 0 ≡ b → slice_get groups (seq - 1) ≡ there
        → marked_of (cond a None (slice_get (cond b groups (acked_there groups store (seq - 1) there)) (n - 1))) s ≡ true
        → (marked_of (cond a None (slice_get groups (n - 1))) s ≡ true) ⊎ ((n ≡ seq) × (s ≡ store))
    by true b there is_a is_b is h = absurd (cc h)
    by false true there is_a is_b is h = inl h
    by false false None is_a is_b is h = inl h
    by false false (Some logged) is_a is_b is h = next (mark_set groups (seq - 1) (n - 1) logged store s is h)
      where
        next : (marked_of (slice_get groups (n - 1)) s ≡ true) ⊎ ((n - 1 ≡ seq - 1) × (s ≡ store)) → (marked_of (slice_get groups (n - 1)) s ≡ true) ⊎ ((n ≡ seq) × (s ≡ store))
        next (inl old) = inl old
        next (inr new) =
            let some : 1 ≤ n = grind (arith, nat_tests) in
            let more : 1 ≤ seq = grind (arith, nat_tests) in inr (omega (arith, new.0, some, more), new.1)

-- a mark is of a place
placed_marked : (groups : List Logged) (n s : ℕ) → marked_of (placed groups n) s ≡ true → 1 ≤ n
placed_marked groups n s h = by (nat_eq n 0) refl h
  where
    by : (b : Bool) → nat_eq n 0 ≡ b → marked_of (cond b None (slice_get groups (n - 1))) s ≡ true → 1 ≤ n
    by true is h = absurd (cc h)
    by false is h = grind (arith, nat_tests)

pub marks_acked : (log : Log) (store seq n s : ℕ) → is_marked (acked log store seq) n s ≡ true → (is_marked log n s ≡ true) ⊎ ((n ≡ seq) × (s ≡ store))
marks_acked log store seq n s h = by (was_let_go log n) h
  where
    at : (marked_of (numbered log n) s ≡ true) ⊎ ((n - log.gone ≡ seq - log.gone) × (s ≡ store)) → 1 ≤ n - log.gone → (marked_of (numbered log n) s ≡ true) ⊎ ((n ≡ seq) × (s ≡ store))
    at (inl old) some = inl old
    at (inr new) some = inr (omega (arith, new.0, some), new.1)

    by : (b : Bool) → cond b (has all_acks s) (marked_of (placed (acked_at log.groups store (seq - log.gone)) (n - log.gone)) s) ≡ true → (cond b (has all_acks s) (marked_of (numbered log n) s) ≡ true) ⊎ ((n ≡ seq) × (s ≡ store))
    by true h = inl h
    by false h = at (placed_acked log.groups store (seq - log.gone) (n - log.gone) s h) (placed_marked (acked_at log.groups store (seq - log.gone)) (n - log.gone) s h)

no_mark : (s : ℕ) → has no_acks s ≡ false
no_mark s = by (nat_eq s 1) (nat_eq s 2) (nat_eq s 3)
  where
    by : (x y z : Bool) → cond x false (cond y false (cond z false false)) ≡ false
    by true y z = refl
    by false true z = refl
    by false false true = refl
    by false false false = refl

mark_push : (groups : List Logged) (l : Logged) (j s : ℕ) → has l.acks s ≡ false → marked_of (slice_get (groups ++ l ∷ []) j) s ≡ marked_of (slice_get groups j) s
mark_push [] l zero s h = h
mark_push [] l (suc j) s h = refl
mark_push (x ∷ groups) l zero s h = refl
mark_push (x ∷ groups) l (suc j) s h = mark_push groups l j s h

placed_push : (groups : List Logged) (l : Logged) (n s : ℕ) → has l.acks s ≡ false → marked_of (placed (groups ++ l ∷ []) n) s ≡ marked_of (placed groups n) s
placed_push groups l n s none = by (nat_eq n 0)
  where
    by : (a : Bool) → marked_of (cond a None (slice_get (groups ++ l ∷ []) (n - 1))) s ≡ marked_of (cond a None (slice_get groups (n - 1))) s
    by true = refl
    by false = mark_push groups l (n - 1) s none

pub marks_appended : (log : Log) (group : Group) (n s : ℕ) → is_marked (appended log group) n s ≡ is_marked log n s
marks_appended log group n s = ap (λ (b : Bool). cond (was_let_go log n) (has all_acks s) b) (placed_push log.groups (unacknowledged group) (n - log.gone) s (no_mark s))

-- ---- what the log keeps

pub kept_appended : (writer : Writer) (gone before : ℕ) (groups : List Logged) (logged : Logged) (first second third : ℕ) → IsKept writer gone before groups first second third → logged.acks ≡ no_acks → gone + length groups + 1 < 2 ^ 32
    → logged.group.writer ≡ writer → logged.group.seq ≡ gone + length groups + 1 → stamp_at before groups (length groups) < logged.group.stamp.0 → IsKept writer gone before (groups ++ logged ∷ []) first second third
kept_appended writer gone before groups logged first second third kept none short own next later = record {
  order = order_appended writer gone before groups logged kept.order own next later;
  short = omega (arith, short, length-append groups (logged ∷ []));
  first_is = kept.first_is ∙ sym (prefix_ends (λ l. has l.acks 1) groups logged (ap (λ acks. has acks 1) none));
  second_is = kept.second_is ∙ sym (prefix_ends (λ l. has l.acks 2) groups logged (ap (λ acks. has acks 2) none));
  third_is = kept.third_is ∙ sym (prefix_ends (λ l. has l.acks 3) groups logged (ap (λ acks. has acks 3) none));
}

-- Several groups that no store has acknowledged make no prefix longer.
prefix_more : (p : Logged → Bool) (groups : List Logged) (gs : List Group) → ((g : Group) → p (unacknowledged g) ≡ false) → prefix_len p (groups ++ map unacknowledged gs) ≡ prefix_len p groups
prefix_more p groups [] none = ap (λ (ls : List Logged). prefix_len p ls) (append-nil groups)
prefix_more p groups (g ∷ gs) none =
    ap (λ (ls : List Logged). prefix_len p ls) (sym (append_assoc groups (unacknowledged g ∷ []) (map unacknowledged gs))) ∙ prefix_more p (groups ++ unacknowledged g ∷ []) gs none ∙ prefix_ends p groups (unacknowledged g) (none g)

length_row : (gs : List Group) → length (map unacknowledged gs) ≡ length gs
length_row [] = refl
length_row (g ∷ gs) = omega (arith, length_row gs)

pub kept_all : (writer : Writer) (gone before : ℕ) (groups : List Logged) (gs : List Group) (first second third : ℕ) → IsKept writer gone before groups first second third → gone + length groups + length gs < 2 ^ 32
    → AreNext writer (gone + length groups) (stamp_at before groups (length groups)) gs → IsKept writer gone before (groups ++ map unacknowledged gs) first second third
kept_all writer gone before groups gs first second third kept short next = record {
  order = order_all writer gone before groups gs kept.order next;
  short = omega (arith, short, length-append groups (map unacknowledged gs), length_row gs);
  first_is = kept.first_is ∙ sym (prefix_more (λ l. has l.acks 1) groups gs (λ g. refl));
  second_is = kept.second_is ∙ sym (prefix_more (λ l. has l.acks 2) groups gs (λ g. refl));
  third_is = kept.third_is ∙ sym (prefix_more (λ l. has l.acks 3) groups gs (λ g. refl));
}

-- The durable groups go.
kept_dropped : (writer : Writer) (gone before : ℕ) (groups : List Logged) (n first second third : ℕ) → IsKept writer gone before groups first second third → n ≡ durable_count groups
    → IsKept writer (gone + n) (stamp_at before groups n) (drop n groups) (first - n) (second - n) (third - n)
kept_dropped writer gone before groups n first second third kept is =
    let within = durable_within groups n first second third is kept.first_is kept.second_is kept.third_is in
    let short : n ≤ length groups = durable_short groups n is in
    record {
      order = order_dropped writer gone before groups n short kept.order;
      short = omega (arith, kept.short, short, length-drop n groups);
      first_is = prefix_left groups 1 n first kept.first_is within.0;
      second_is = prefix_left groups 2 n second kept.second_is within.1;
      third_is = prefix_left groups 3 n third kept.third_is within.2;
    }

pub kept_gone : (writer : Writer) (gone before : ℕ) (groups : List Logged) (n first second third stamp : ℕ) (left : List Logged) → IsKept writer gone before groups first second third → n ≡ durable_count groups → stamp ≡ stamp_at before groups n
    → left ≡ drop n groups → IsKept writer (gone + n) stamp left (first - n) (second - n) (third - n)
kept_gone writer gone before groups n first second third stamp left kept is at rest =
    subst (λ (k : ℕ). IsKept writer (gone + n) k left (first - n) (second - n) (third - n)) (sym at)
    (subst (λ (ls : List Logged). IsKept writer (gone + n) (stamp_at before groups n) ls (first - n) (second - n) (third - n)) (sym rest) (kept_dropped writer gone before groups n first second third kept is))

length_acked : (groups : List Logged) (store seq : ℕ) → length (acked_at groups store seq) ≡ length groups
length_acked groups store seq = by (nat_eq seq 0) (slice_get groups (seq - 1))
  where
    by : (b : Bool) (there : Option Logged) → length (cond b groups (acked_there groups store (seq - 1) there)) ≡ length groups
    by true there = refl
    by false None = refl
    by false (Some logged) = length-set groups (seq - 1) (record logged { acks = with_ack logged.acks store })

pub kept_acked : (writer : Writer) (gone before : ℕ) (old new : List Logged) (store seq first second third first' second' third' : ℕ) → IsKept writer gone before old first second third → new ≡ acked_at old store seq
    → first' ≡ reached new 1 → second' ≡ reached new 2 → third' ≡ reached new 3 → IsKept writer gone before new first' second' third'
kept_acked writer gone before old new store seq first second third first' second' third' kept is h k l = record {
  order = subst (InOrder writer (gone + 1) before) (sym is) (order_acked writer (gone + 1) before old store seq kept.order);
  short = omega (arith, kept.short, ap (λ (x : List Logged). length x) is, length_acked old store seq);
  first_is = h;
  second_is = k;
  third_is = l;
}

-- ---- the first group that isn't durable

-- what a look-up found, in the log's groups
first_is : (log : Log) (inside : List Logged) (i : ℕ) (o : Option Logged) → inside ≡ log.groups → i ≡ durable_count log.groups → o ≡ slice_get inside i → o ≡ slice_get log.groups (durable_count log.groups)
first_is log inside i o is at got = got ∙ (λ k. slice_get (is k) (at k))

pub settled_found : (log : Log) (inside : List Logged) (i scalar : ℕ) (o : Option Logged) → inside ≡ log.groups → i ≡ durable_count log.groups → o ≡ slice_get inside i → settled_before o scalar ≡ settled log scalar
settled_found log inside i scalar o is at got = ap (λ (x : Option Logged). settled_before x scalar) (first_is log inside i o is at got)

pub stamp_some : (log : Log) (inside : List Logged) (i : ℕ) (l : Logged) → IsLog log → inside ≡ log.groups → i ≡ durable_count log.groups → Some l ≡ slice_get inside i → 1 ≤ l.group.stamp.0
stamp_some log inside i l order is at got =
    omega (arith, order_stamp log.writer (log.gone + 1) log.gone_stamp log.groups (durable_count log.groups) l order (sym (first_is log inside i (Some l) is at got)))
