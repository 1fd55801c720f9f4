-- How a step moves each part of a master's state on.
use Rattle.std.proofs.Common.{◌≡◌, ◌≤◌, ◌+◌, ◌-◌, ℕ, zero, suc, Bool, true, false, List, [], ◌∷◌, ◌++◌, Option, Some, None, refl, ap, sym, ◌∙◌, cond, arith, append_assoc}
use Rattle.std.specs.Prelude.{nat_eq, nat_le, nat_lt, ◌&&◌, ◌||◌, drop, length, slice_get, slice_set}
use Rattle.std.specs.List.{prefix_len}
use Rattle.std.specs.FinMap.{gets}
use Rattle.std.specs.FinMap as fin
use Rattle.std.proofs.lemmas.Bool.Decides.{nat_tests}
use Rattle.std.proofs.lemmas.List.{append-nil, length-append}
use Rattle.tm_data.specs.declared.image.Image.{Image}
use Rattle.tm_data.specs.declared.log.Group.{Group}
use Rattle.tm_data.specs.declared.transaction.Stamp.{Stamp}
use Rattle.tm_data.specs.declared.vector.VectorEntry.{VectorEntry}
use Rattle.tm_data.specs.Vectors.{IsVector}
use Rattle.vs_clock.specs.State as clock
use Rattle.vs_clock.proofs.StateLemmas.{heard_ascends, heard_stamp}
use Rattle.log_writer.specs.declared.acks.Acks.{Acks}
use Rattle.log_writer.specs.declared.logged.Logged.{Logged}
use Rattle.log_writer.specs.Acks.{all_acks, has, has_all, with_ack}
use Rattle.log_writer.specs.Log.{Log, acked, acked_at, acked_there, appended, durable_count, durable_seq, is_marked, last_seq, let_go, marked_of, placed, unacknowledged, was_let_go}
use Rattle.log_writer.proofs.LetGoLemmas.{same_durable, same_last, same_marks}
use Rattle.lease_desk.specs.declared.lease.Lease.TheVariants as lease
use Rattle.lease_desk.specs.declared.lease.PageLease.{PageLease}
use Rattle.lease_desk.specs.Desk as desk
use Rattle.lease_desk.specs.Desk.{Leases, lease_of, set_if}
use Rattle.master_model.specs.State.{Work}
use Rattle.master_model.specs.Leases.{with_images}
use Rattle.master_model.specs.Facts.{groups_in, groups_of}
use Rattle.master_model.specs.Goes.{LogGoes, ClockGoes, EpochsGo}
use Rattle.master_model.proofs.Moves.{Closed}

-- ---- the log

pub length_in : (ls : List Logged) → length (groups_in ls) ≡ length ls
length_in [] = refl
length_in (l ∷ ls) = omega (arith, length_in ls)

drop_none : {X : Type 0} (n : ℕ) (xs : List X) → n ≡ 0 → drop n xs ≡ xs
drop_none zero xs is = refl
drop_none (suc n) xs is = absurd (omega (arith, is))

pub drop_left : {X : Type 0} (n : ℕ) (xs ys : List X) → n ≤ length xs → drop n xs ++ ys ≡ drop n (xs ++ ys)
drop_left zero xs ys less = refl
drop_left (suc n) [] ys less = absurd (omega (arith, less))
drop_left (suc n) (x ∷ xs) ys less = drop_left n xs ys (omega (arith, less))

drop_nil : {X : Type 0} (n : ℕ) (xs : List X) → xs ≡ [] → drop n xs ≡ []
drop_nil zero xs is = is
drop_nil (suc n) [] is = refl
drop_nil (suc n) (x ∷ xs) is = absurd (cc is)

pub drop_twice : {X : Type 0} (m n : ℕ) (xs : List X) → drop n (drop m xs) ≡ drop (m + n) xs
drop_twice zero n xs = let same : n ≡ 0 + n = omega arith in ap (λ (k : ℕ). drop k xs) same
drop_twice (suc m) n [] = drop_nil n [] refl ∙ sym (drop_nil (suc m + n) [] refl)
drop_twice (suc m) n (x ∷ xs) = let same : suc (m + n) ≡ suc m + n = omega arith in drop_twice m n xs ∙ ap (λ (k : ℕ). drop k (x ∷ xs)) same

pub groups_dropped : (n : ℕ) (ls : List Logged) → groups_in (drop n ls) ≡ drop n (groups_in ls)
groups_dropped zero ls = refl
groups_dropped (suc n) [] = refl
groups_dropped (suc n) (l ∷ ls) = groups_dropped n ls

-- How the groups of a log go on where none has gone.
groups_go : (old new : Log) (more : List Group) → new.gone ≡ old.gone → groups_of new ≡ groups_of old ++ more → (xs : List Group) × (last_seq new ≡ last_seq old + length xs) × (groups_of new ≡ drop (new.gone - old.gone) (groups_of old ++ xs))
groups_go old new more gone is = (
  more,
  omega (arith, gone, length_in old.groups, length_in new.groups, ap (λ (gs : List Group). length gs) is, length-append (groups_of old) more),
  is ∙ sym (drop_none (new.gone - old.gone) (groups_of old ++ more) (omega (arith, gone))),
)

pub log_stays : (log : Log) → LogGoes log log
log_stays log = record {
  writer = refl;
  gone = omega arith;
  groups = groups_go log log [] refl (sym (append-nil (groups_of log)));
  marks = λ seq store h. h;
  durable = omega arith;
}

pub log_both : (a b c : Log) → LogGoes a b → LogGoes b c → LogGoes a c
log_both a b c h k = record {
  writer = k.writer ∙ h.writer;
  gone = omega (arith, h.gone, k.gone);
  groups = (more, omega (arith, h.groups.1, k.groups.1, length-append h.groups.0 k.groups.0), all);
  marks = λ seq store x. k.marks seq store (h.marks seq store x);
  durable = omega (arith, h.durable, k.durable);
}
  where
    more : List Group
    more = h.groups.0 ++ k.groups.0

    short : b.gone - a.gone ≤ length (groups_of a ++ h.groups.0)
    short = omega (arith, h.gone, h.groups.1, length-append (groups_of a) h.groups.0, length_in a.groups, length_in b.groups)

    front : groups_of b ++ k.groups.0 ≡ drop (b.gone - a.gone) (groups_of a ++ more)
    front =
        ap (λ (gs : List Group). gs ++ k.groups.0) h.groups.2 ∙ drop_left (b.gone - a.gone) (groups_of a ++ h.groups.0) k.groups.0 short
        ∙ ap (λ (gs : List Group). drop (b.gone - a.gone) gs) (append_assoc (groups_of a) h.groups.0 k.groups.0)

    all : groups_of c ≡ drop (c.gone - a.gone) (groups_of a ++ more)
    all = let one : b.gone - a.gone + (c.gone - b.gone) ≡ c.gone - a.gone = omega (arith, h.gone, k.gone) in
        k.groups.2 ∙ ap (λ (gs : List Group). drop (c.gone - b.gone) gs) front ∙ drop_twice (b.gone - a.gone) (c.gone - b.gone) (groups_of a ++ more) ∙ ap (λ (n : ℕ). drop n (groups_of a ++ more)) one

-- an element in the place of another one
set_same : (ls : List Logged) (i : ℕ) (x y : Logged) → slice_get ls i ≡ Some x → y.group ≡ x.group → groups_in (slice_set ls i y) ≡ groups_in ls
set_same [] i x y found same = refl
set_same (l ∷ ls) zero x y found same = let one : l ≡ x = cc found in ap (λ (g : Group). g ∷ groups_in ls) (same ∙ ap (λ (k : Logged). k.group) (sym one))
set_same (l ∷ ls) (suc i) x y found same = ap (λ (gs : List Group). l.group ∷ gs) (set_same ls i x y found same)

set_prefix : (p : Logged → Bool) (ls : List Logged) (i : ℕ) (x y : Logged) → slice_get ls i ≡ Some x → (p x ≡ true → p y ≡ true) → prefix_len p ls ≤ prefix_len p (slice_set ls i y)
set_prefix p [] i x y found h = omega arith
set_prefix p (l ∷ ls) zero x y found h = by (p l) (p y) refl refl
  where
    by : (b c : Bool) → p l ≡ b → p y ≡ c → cond b (1 + prefix_len p ls) 0 ≤ cond c (1 + prefix_len p ls) 0
    by true true is_b is_c = omega arith
    by true false is_b is_c = let one : l ≡ x = cc found in let e : p y ≡ true = h (ap p (sym one) ∙ is_b) in absurd (cc (e, is_c))
    by false c is_b is_c = omega arith
set_prefix p (l ∷ ls) (suc i) x y found h = by (p l) (set_prefix p ls i x y found h)
  where
    by : (b : Bool) → prefix_len p ls ≤ prefix_len p (slice_set ls i y) → cond b (1 + prefix_len p ls) 0 ≤ cond b (1 + prefix_len p (slice_set ls i y)) 0
    by true rest = omega (arith, rest)
    by false rest = omega arith

set_marks : (ls : List Logged) (i n store : ℕ) (x y : Logged) → slice_get ls i ≡ Some x → (has x.acks store ≡ true → has y.acks store ≡ true) → marked_of (slice_get ls n) store ≡ true → marked_of (slice_get (slice_set ls i y) n) store ≡ true
set_marks [] i n store x y found h k = k
set_marks (l ∷ ls) zero zero store x y found h k = let one : l ≡ x = cc found in h (ap (λ (z : Logged). has z.acks store) (sym one) ∙ k)
set_marks (l ∷ ls) zero (suc n) store x y found h k = k
set_marks (l ∷ ls) (suc i) zero store x y found h k = k
set_marks (l ∷ ls) (suc i) (suc n) store x y found h k = set_marks ls i n store x y found h k

or_kept : (a b : Bool) → a ≡ true → a || b ≡ true
or_kept true b h = refl
or_kept false b h = absurd (cc h)

has_kept : (acks : Acks) (store s : ℕ) → has acks s ≡ true → has (with_ack acks store) s ≡ true
has_kept acks store s h = by (nat_eq s 1) (nat_eq s 2) (nat_eq s 3) h
  where
    by : (x y z : Bool) → cond x acks.first (cond y acks.second (cond z acks.third false)) ≡ true
        → cond x (acks.first || nat_eq store 1) (cond y (acks.second || nat_eq store 2) (cond z (acks.third || nat_eq store 3) false)) ≡ true
    by true y z h = or_kept acks.first (nat_eq store 1) h
    by false true z h = or_kept acks.second (nat_eq store 2) h
    by false false true h = or_kept acks.third (nat_eq store 3) h
    by false false false h = absurd (cc h)

all_kept : (acks : Acks) (store : ℕ) → has_all acks ≡ true → has_all (with_ack acks store) ≡ true
all_kept acks store h = by acks.first acks.second acks.third h
  where
    by : (a b c : Bool) → (a && (b && c)) ≡ true → ((a || nat_eq store 1) && ((b || nat_eq store 2) && (c || nat_eq store 3))) ≡ true
    by true true true h = refl
    by true true false h = absurd (cc h)
    by true false c h = absurd (cc h)
    by false b c h = absurd (cc h)

-- what an acknowledgement leaves
record AckedIn (old new : List Logged) : Type 0 where
  pub same : groups_in new ≡ groups_in old
  pub marks : (place store : ℕ) → marked_of (placed old place) store ≡ true → marked_of (placed new place) store ≡ true
  pub durable : durable_count old ≤ durable_count new

pub record Acked (old new : Log) : Type 0 where
  pub same : groups_of new ≡ groups_of old
  pub marks : (seq store : ℕ) → is_marked old seq store ≡ true → is_marked new seq store ≡ true
  pub durable : durable_seq old ≤ durable_seq new

placed_marks : (old new : List Logged) → ((n store : ℕ) → marked_of (slice_get old n) store ≡ true → marked_of (slice_get new n) store ≡ true) → (place store : ℕ) → marked_of (placed old place) store ≡ true → marked_of (placed new place) store ≡ true
placed_marks old new h place store k = by (nat_eq place 0) k
  where
    by : (b : Bool) → marked_of (cond b None (slice_get old (place - 1))) store ≡ true → marked_of (cond b None (slice_get new (place - 1))) store ≡ true
    by true k = k
    by false k = h (place - 1) store k

-- Marks of groups by place are those by number, where as many are gone.
numbered_marks : (old new : Log) → new.gone ≡ old.gone → ((place store : ℕ) → marked_of (placed old.groups place) store ≡ true → marked_of (placed new.groups place) store ≡ true)
    → (seq store : ℕ) → is_marked old seq store ≡ true → is_marked new seq store ≡ true
numbered_marks old new gone h seq store k =
    ap (λ (n : ℕ). cond (nat_lt 0 seq && nat_le seq n) (has all_acks store) (marked_of (placed new.groups (seq - n)) store)) gone ∙ by (was_let_go old seq) k
  where
    by : (b : Bool) → cond b (has all_acks store) (marked_of (placed old.groups (seq - old.gone)) store) ≡ true → cond b (has all_acks store) (marked_of (placed new.groups (seq - old.gone)) store) ≡ true
    by true k = k
    by false k = h (seq - old.gone) store k

acked_in : (groups : List Logged) (store seq : ℕ) → AckedIn groups (acked_at groups store seq)
acked_in groups store seq = by (nat_eq seq 0) (slice_get groups (seq - 1)) refl
  where
    by : (b : Bool) (there : Option Logged) → slice_get groups (seq - 1) ≡ there → AckedIn groups (cond b groups (acked_there groups store (seq - 1) there))
    by true there is = record { same = refl; marks = λ n s h. h; durable = omega arith }
    by false None is = record { same = refl; marks = λ n s h. h; durable = omega arith }
    by false (Some l) is =
        let new : Logged = record l { acks = with_ack l.acks store } in
        record {
          same = set_same groups (seq - 1) l new is refl;
          marks = placed_marks groups (slice_set groups (seq - 1) new) (λ n s. set_marks groups (seq - 1) n s l new is (has_kept l.acks store s));
          durable = set_prefix (λ l. has_all l.acks) groups (seq - 1) l new is (all_kept l.acks store);
        }

pub acked_is : (log : Log) (store seq : ℕ) → Acked log (acked log store seq)
acked_is log store seq =
    let a = acked_in log.groups store (seq - log.gone) in
    record { same = a.same; marks = numbered_marks log (acked log store seq) refl a.marks; durable = omega (arith, a.durable) }

pub log_acked : (log : Log) (store seq : ℕ) → LogGoes log (acked log store seq)
log_acked log store seq =
    let a = acked_is log store seq in
    record { writer = refl; gone = omega arith; groups = groups_go log (acked log store seq) [] refl (a.same ∙ sym (append-nil (groups_of log))); marks = a.marks; durable = a.durable }

pub log_gone : (log : Log) → LogGoes log (let_go log)
log_gone log =
    let n : ℕ = durable_count log.groups in
    record {
      writer = refl;
      gone = omega arith;
      groups = ([], omega (arith, same_last log), groups_dropped n log.groups ∙ (λ i. drop (counted i) (sym (append-nil (groups_of log)) i)));
      marks = λ seq store h. same_marks log seq store ∙ h;
      durable = omega (arith, same_durable log);
    }
  where
    counted : durable_count log.groups ≡ durable_seq log - log.gone
    counted = omega arith

pub groups_pushed : (ls : List Logged) (l : Logged) → groups_in (ls ++ l ∷ []) ≡ groups_in ls ++ l.group ∷ []
groups_pushed [] l = refl
groups_pushed (x ∷ ls) l = ap (λ (gs : List Group). x.group ∷ gs) (groups_pushed ls l)

push_marks : (ls : List Logged) (l : Logged) (n store : ℕ) → marked_of (slice_get ls n) store ≡ true → marked_of (slice_get (ls ++ l ∷ []) n) store ≡ true
push_marks [] l n store h = absurd (cc h)
push_marks (x ∷ ls) l zero store h = h
push_marks (x ∷ ls) l (suc n) store h = push_marks ls l n store h

push_prefix : (p : Logged → Bool) (ls : List Logged) (l : Logged) → prefix_len p ls ≤ prefix_len p (ls ++ l ∷ [])
push_prefix p [] l = omega arith
push_prefix p (x ∷ ls) l = by (p x) (push_prefix p ls l)
  where
    by : (b : Bool) → prefix_len p ls ≤ prefix_len p (ls ++ l ∷ []) → cond b (1 + prefix_len p ls) 0 ≤ cond b (1 + prefix_len p (ls ++ l ∷ [])) 0
    by true h = omega (arith, h)
    by false h = omega arith

pub log_appended : (log : Log) (g : Group) → LogGoes log (appended log g)
log_appended log g =
    let l : Logged = unacknowledged g in
    record {
      writer = refl;
      gone = omega arith;
      groups = groups_go log (appended log g) (g ∷ []) refl (groups_pushed log.groups l);
      marks = numbered_marks log (appended log g) refl (placed_marks log.groups (log.groups ++ l ∷ []) (push_marks log.groups l));
      durable = omega (arith, push_prefix (λ l. has_all l.acks) log.groups l);
    }

image_log : (w : Work) (o : Option (List Image)) → LogGoes w.log (with_images w o).log
image_log w None = log_stays w.log
image_log w (Some images) = log_stays w.log

pub log_moves : Closed (λ a b. LogGoes a.log b.log)
log_moves = record {
  none = λ w. log_stays w.log;
  both = λ a b c. log_both a.log b.log c.log;
  hears_stamp = λ w stamp h. log_stays w.log;
  hears_vector = λ w vector h. log_stays w.log;
  acks = λ w store seq h came. log_acked w.log store seq;
  acks_more = λ w store seq h came. log_acked w.log store seq;
  let_go = λ w may. log_gone w.log;
  group = λ w records none room. log_appended w.log _;
  change = λ w r stamp page is. log_stays w.log;
  grant = λ w page epoch stamp tags vector new brought fits granted. log_stays w.log;
  image = λ w image held same. image_log w _;
  fresh_page = λ w page is came. log_stays w.log;
  fresh_none = λ w. log_stays w.log;
  recall = λ w page epoch came. log_stays w.log;
  give_back = λ w page is came. log_stays w.log;
  release = λ w page epoch is. log_stays w.log;
  path = λ w path. log_stays w.log;
  end = λ w t is. log_stays w.log;
  mark = λ w t is known. log_stays w.log;
  name = λ w t. log_stays w.log;
  begin = λ w session is. log_stays w.log;
  tag = λ w session page key own is active held. log_stays w.log;
  put = λ w p leaf path fresh count is some. log_stays w.log;
  session = λ w session own left is going. log_stays w.log;
  ends = λ w session own committed is going room. log_appended w.log _;
  free = λ w session own committed seq is at durable. log_stays w.log;
}

-- ---- the clock

-- What is heard is a vector, and stays one.
abbrev pub ClockMoves : clock.State → clock.State → Type 0
ClockMoves old new = IsVector old.heard → IsVector new.heard × ClockGoes old new

pub clock_stays : (s : clock.State) → ClockGoes s s
clock_stays s = record { writer = refl; scalar = omega arith; heard = λ w. omega arith }

clock_still : (s : clock.State) → ClockMoves s s
clock_still s v = (v, clock_stays s)

pub clock_both : (a b c : clock.State) → ClockGoes a b → ClockGoes b c → ClockGoes a c
clock_both a b c h k = record { writer = k.writer ∙ h.writer; scalar = omega (arith, h.scalar, k.scalar); heard = λ w. omega (arith, h.heard w, k.heard w) }

clock_moves_both : (a b c : clock.State) → ClockMoves a b → ClockMoves b c → ClockMoves a c
clock_moves_both a b c h k v = let one = h v in let two = k one.0 in (two.0, clock_both a b c one.1 two.1)

stamp_heard : (s : clock.State) (stamp : ℕ) → ClockMoves s (clock.heard_scalar s stamp)
stamp_heard s stamp v = (v, record { writer = refl; scalar = omega arith; heard = λ w. omega arith })

vector_heard : (s : clock.State) (vector : List VectorEntry) → IsVector vector → ClockMoves s (clock.heard_vector s vector)
vector_heard s vector u v = (
  heard_ascends s vector v u,
  record { writer = refl; scalar = omega arith; heard = λ w. omega (arith, heard_stamp s vector w v u) },
)

group_ticked : (s : clock.State) → ClockMoves s (clock.told (clock.ticked s))
group_ticked s v = (v, record { writer = refl; scalar = omega arith; heard = λ w. omega arith })

image_clock : (w : Work) (o : Option (List Image)) → ClockMoves w.clock (with_images w o).clock
image_clock w None = clock_still w.clock
image_clock w (Some images) = clock_still w.clock

pub clock_moves : Closed (λ a b. ClockMoves a.clock b.clock)
clock_moves = record {
  none = λ w. clock_still w.clock;
  both = λ a b c. clock_moves_both a.clock b.clock c.clock;
  hears_stamp = λ w stamp h. stamp_heard w.clock stamp;
  hears_vector = λ w vector h. vector_heard w.clock vector h.0;
  acks = λ w store seq h came. clock_still w.clock;
  acks_more = λ w store seq h came. clock_still w.clock;
  let_go = λ w may. clock_still w.clock;
  group = λ w records none room. group_ticked w.clock;
  change = λ w r stamp page is. clock_still w.clock;
  grant = λ w page epoch stamp tags vector new brought fits granted.
      clock_moves_both w.clock (clock.heard_scalar w.clock stamp.0) (clock.heard_vector (clock.heard_scalar w.clock stamp.0) vector) (stamp_heard w.clock stamp.0)
      (vector_heard (clock.heard_scalar w.clock stamp.0) vector brought.0);
  image = λ w image held same. image_clock w _;
  fresh_page = λ w page is came. clock_still w.clock;
  fresh_none = λ w. clock_still w.clock;
  recall = λ w page epoch came. clock_still w.clock;
  give_back = λ w page is came. clock_still w.clock;
  release = λ w page epoch is. clock_still w.clock;
  path = λ w path. clock_still w.clock;
  end = λ w t is. clock_still w.clock;
  mark = λ w t is known. clock_still w.clock;
  name = λ w t. clock_still w.clock;
  begin = λ w session is. clock_still w.clock;
  tag = λ w session page key own is active held. clock_still w.clock;
  put = λ w p leaf path fresh count is some. clock_still w.clock;
  session = λ w session own left is going. clock_still w.clock;
  ends = λ w session own committed is going room. group_ticked w.clock;
  free = λ w session own committed seq is at durable. clock_still w.clock;
}

-- ---- epochs

pub epochs_stay : (m : Leases) → EpochsGo m m
epochs_stay m page = omega arith

pub epochs_both : (a b c : Leases) → EpochsGo a b → EpochsGo b c → EpochsGo a c
epochs_both a b c h k page = omega (arith, h page, k page)

-- a lease with at least the page's epoch
epochs_set : (m : Leases) (page : ℕ) (l : PageLease) (b : Bool) → (lease_of m page).epoch ≤ l.epoch → EpochsGo m (set_if m page l b)
epochs_set m page l false h q = omega arith
epochs_set m page l true h q = grind (arith, nat_tests, gets)

epochs_granted : (m : Leases) (page epoch : ℕ) (stamp : Stamp) → EpochsGo m (desk.granted m page epoch stamp)
epochs_granted m page epoch stamp = by (nat_lt (lease_of m page).epoch epoch) refl
  where
    l : PageLease
    l = record { epoch = epoch; state = lease.Held; stamp = stamp }

    by : (b : Bool) → nat_lt (lease_of m page).epoch epoch ≡ b → EpochsGo m (set_if m page l b)
    by false is = epochs_stay m
    by true is = epochs_set m page l true (grind (arith, nat_tests))

-- a lease that changes at its epoch
epochs_at : (m : Leases) (page : ℕ) (l n : PageLease) (b : Bool) → fin.get m page ≡ Some l → n.epoch ≡ l.epoch → EpochsGo m (set_if m page n b)
epochs_at m page l n b is same = epochs_set m page n b (omega (arith, same, ap (λ (o : Option PageLease). (desk.or_unseen o).epoch) is))

epochs_recalled : (m : Leases) (page epoch : ℕ) → EpochsGo m (desk.recalled m page epoch)
epochs_recalled m page epoch = by (fin.get m page) refl
  where
    by : (o : Option PageLease) → fin.get m page ≡ o → EpochsGo m (desk.recalled_from m page epoch o)
    by None is = epochs_stay m
    by (Some l) is = epochs_at m page l (record l { state = lease.Recalled }) _ is refl

epochs_changed : (m : Leases) (page : ℕ) (stamp : Stamp) → EpochsGo m (desk.changed m page stamp)
epochs_changed m page stamp = by (fin.get m page) refl
  where
    by : (o : Option PageLease) → fin.get m page ≡ o → EpochsGo m (desk.changed_from m page stamp o)
    by None is = epochs_stay m
    by (Some l) is = epochs_at m page l (record l { stamp = stamp }) _ is refl

epochs_releasing : (m : Leases) (page : ℕ) → EpochsGo m (desk.releasing m page)
epochs_releasing m page = by (fin.get m page) refl
  where
    by : (o : Option PageLease) → fin.get m page ≡ o → EpochsGo m (desk.releasing_from m page o)
    by None is = epochs_stay m
    by (Some l) is = epochs_at m page l (record l { state = lease.Releasing }) _ is refl

epochs_released : (m : Leases) (page epoch : ℕ) → EpochsGo m (desk.released m page epoch)
epochs_released m page epoch = by (fin.get m page) refl
  where
    by : (o : Option PageLease) → fin.get m page ≡ o → EpochsGo m (desk.released_from m page epoch o)
    by None is = epochs_stay m
    by (Some l) is = epochs_at m page l (record l { state = lease.None }) _ is refl

image_epochs : (w : Work) (o : Option (List Image)) → EpochsGo w.leases (with_images w o).leases
image_epochs w None = epochs_stay w.leases
image_epochs w (Some images) = epochs_stay w.leases

pub epoch_moves : Closed (λ a b. EpochsGo a.leases b.leases)
epoch_moves = record {
  none = λ w. epochs_stay w.leases;
  both = λ a b c. epochs_both a.leases b.leases c.leases;
  hears_stamp = λ w stamp h. epochs_stay w.leases;
  hears_vector = λ w vector h. epochs_stay w.leases;
  acks = λ w store seq h came. epochs_stay w.leases;
  acks_more = λ w store seq h came. epochs_stay w.leases;
  let_go = λ w may. epochs_stay w.leases;
  group = λ w records none room. epochs_stay w.leases;
  change = λ w r stamp page is. epochs_changed w.leases page (record { 0 = stamp });
  grant = λ w page epoch stamp tags vector new brought fits granted. epochs_granted w.leases page.0 epoch stamp;
  image = λ w image held same. image_epochs w _;
  fresh_page = λ w page is came. epochs_granted w.leases page.0 1 (record { 0 = 0 });
  fresh_none = λ w. epochs_stay w.leases;
  recall = λ w page epoch came. epochs_recalled w.leases page epoch;
  give_back = λ w page is came. epochs_releasing w.leases page;
  release = λ w page epoch is. epochs_released w.leases page epoch;
  path = λ w path. epochs_stay w.leases;
  end = λ w t is. epochs_stay w.leases;
  mark = λ w t is known. epochs_stay w.leases;
  name = λ w t. epochs_stay w.leases;
  begin = λ w session is. epochs_stay w.leases;
  tag = λ w session page key own is active held. epochs_stay w.leases;
  put = λ w p leaf path fresh count is some. epochs_stay w.leases;
  session = λ w session own left is going. epochs_stay w.leases;
  ends = λ w session own committed is going room. epochs_stay w.leases;
  free = λ w session own committed seq is at durable. epochs_stay w.leases;
}
