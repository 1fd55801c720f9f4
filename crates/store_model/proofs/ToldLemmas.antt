-- What a log store sends is so, and stays so.
use Rattle.std.proofs.Common.{◌≡◌, ◌≤◌, ◌<◌, ◌+◌, ◌-◌, ℕ, suc, zero, Bool, true, false, cond, ◌||◌, nat_eq, nat_le, nat_lt, max, List, [], ◌∷◌, ◌++◌, length, take, drop, slice_get, sum_by, Option, Some, None, inl, inr, refl, sym, subst, ap, ◌∙◌, arith}
use Rattle.std.proofs.lemmas.Bool.Decides.{nat_tests}
use Rattle.std.specs.List.{AllByRecursion}
use Rattle.std.proofs.lemmas.List.Sums.{sum_by-cons}
use Rattle.tm_data.specs.declared.log.Group.{Group}
use Rattle.tm_data.specs.declared.transaction.Writer.{Writer}
use Rattle.tm_base.specs.GroupSizes.{group_size}
use Rattle.tm_base.specs.declared.message.Message.{Message}
use Rattle.tm_base.specs.declared.message.Node.{Node}
use Rattle.tm_base.specs.declared.message.Node.TheVariants.{LogStore}
use Rattle.tm_base.specs.declared.message.Note.{Note}
use Rattle.tm_base.specs.declared.message.Note.TheVariants as note
use Rattle.store_model.specs.LogState.{Log, LogStoreState, start, log_in, log_of, put, numbered}
use Rattle.store_model.specs.LogStep.{Effect, MAX_BYTES, HEAD_BYTES, heard, message, stepped, ticked, on_append, on_held, on_new, on_numbered, on_unsealed, on_note, serves, fits, fits_if, fitting, servable, with_group, with_seal, same_group}
use Rattle.store_model.specs.LogFacts.{LogInput, Hears, Ticks, taken, run, IsSealedWith, Names, NamesIn}
use Rattle.store_model.specs.LogGoes.{Goes, IsFront, LogGoes}
use Rattle.store_model.specs.LogTold.{AppendAnswered, AreServed, AsksRoster, HasGroup, IsAnswered, IsWithin, MessageFact, MessageIs, NoteFact, NoteIs, WereServed}
use Rattle.store_model.proofs.LogLemmas.{log_there, sealed_from}

-- ---- groups that are served

pub fits_front : (first : Bool) (room : ℕ) (gs : List Group) → fits first room gs ≡ take (length (fits first room gs)) gs
fits_front first room [] = refl
fits_front first room (g ∷ gs) = by (first || nat_le (group_size g) room) (fits_front false (room - group_size g) gs)
  where
    by : (b : Bool) → fits false (room - group_size g) gs ≡ take (length (fits false (room - group_size g) gs)) gs
        → fits_if b g (fits false (room - group_size g) gs) ≡ take (length (fits_if b g (fits false (room - group_size g) gs))) (g ∷ gs)
    by true rest = ap (λ l. g ∷ l) rest
    by false rest = refl

room_left : (size room sum : ℕ) → nat_le size room ≡ true → sum ≤ room - size → size + sum ≤ room
room_left size room sum is rest = grind (arith, nat_tests)

size_some : (g : Group) → 0 < group_size g
size_some g = omega arith

fits_room : (room : ℕ) (gs : List Group) → sum_by group_size (fits false room gs) ≤ room
fits_room room [] = omega arith
fits_room room (g ∷ gs) = by (nat_le (group_size g) room) refl (fits_room (room - group_size g) gs)
  where
    by : (b : Bool) → nat_le (group_size g) room ≡ b → sum_by group_size (fits false (room - group_size g) gs) ≤ room - group_size g
        → sum_by group_size (fits_if b g (fits false (room - group_size g) gs)) ≤ room
    by true is rest = subst (λ n. n ≤ room) (sym (sum_by-cons group_size g (fits false (room - group_size g) gs))) (room_left (group_size g) room (sum_by group_size (fits false (room - group_size g) gs)) is rest)
    by false is rest = omega arith

fits_none : (room : ℕ) (gs : List Group) → room ≡ 0 → fits false room gs ≡ []
fits_none room [] h = refl
fits_none room (g ∷ gs) h = ap (λ b. fits_if b g (fits false (room - group_size g) gs)) (full (group_size g) room (size_some g) h)
  where
    full : (size room : ℕ) → 0 < size → room ≡ 0 → nat_le size room ≡ false
    full size room some h = grind (arith, nat_tests)

fitting_within : (g : Group) (gs : List Group) → IsWithin (fitting (g ∷ gs))
fitting_within g gs = by (nat_le (group_size g) (MAX_BYTES - HEAD_BYTES)) refl
  where
    enough : (size sum : ℕ) → nat_le size 1048555 ≡ true → sum ≤ 1048555 - size → 21 + (size + sum) ≤ 1048576
    enough size sum is h = grind (arith, nat_tests)

    none : (size : ℕ) → nat_le size 1048555 ≡ false → 1048555 - size ≡ 0
    none size is = grind (arith, nat_tests)

    by : (b : Bool) → nat_le (group_size g) (MAX_BYTES - HEAD_BYTES) ≡ b → IsWithin (g ∷ fits false (MAX_BYTES - HEAD_BYTES - group_size g) gs)
    by true is = inl (subst (λ n. 21 + n ≤ 1048576) (sym (sum_by-cons group_size g (fits false (MAX_BYTES - HEAD_BYTES - group_size g) gs))) (enough (group_size g) (sum_by group_size (fits false (MAX_BYTES - HEAD_BYTES - group_size g) gs)) is (fits_room (MAX_BYTES - HEAD_BYTES - group_size g) gs)))
    by false is = inr (ap (λ l. suc (length l)) (fits_none (MAX_BYTES - HEAD_BYTES - group_size g) gs (none (group_size g) is)))

-- The place of what stands in a run of a list.
in_take : (n : ℕ) (xs : List Group) (i : ℕ) (g : Group) → slice_get (take n xs) i ≡ Some g → (slice_get xs i ≡ Some g) × (i < n)
in_take zero xs i g h = absurd (cc h)
in_take (suc n) [] i g h = absurd (cc h)
in_take (suc n) (x ∷ xs) zero g h = (h, omega arith)
in_take (suc n) (x ∷ xs) (suc i) g h = let r = in_take n xs i g h in let less : i < n = r.1 in (r.0, omega (arith, less))

in_drop : (n : ℕ) (xs : List Group) (i : ℕ) (g : Group) → slice_get (drop n xs) i ≡ Some g → slice_get xs (n + i) ≡ Some g
in_drop zero xs i g h = let e : i ≡ 0 + i = omega arith in subst (λ k. slice_get xs k ≡ Some g) e h
in_drop (suc n) [] i g h = absurd (cc h)
in_drop (suc n) (x ∷ xs) i g h = let e : suc (n + i) ≡ suc n + i = omega arith in subst (λ k. slice_get (x ∷ xs) k ≡ Some g) e (in_drop n xs i g h)

at_place : (groups : List Group) (i k : ℕ) (g : Group) → k ≡ suc i → slice_get groups i ≡ Some g → numbered groups k ≡ Some g
at_place groups i k g is h =
    ap (λ b. cond b None (slice_get groups (k - 1))) (some k i is) ∙ (ap (slice_get groups) (less k i is) ∙ h)
  where
    some : (k i : ℕ) → k ≡ suc i → nat_eq k 0 ≡ false
    some k i is = grind (arith, nat_tests)

    less : (k i : ℕ) → k ≡ suc i → k - 1 ≡ i
    less k i is = omega (arith, is)

first_is : (first i : ℕ) → max 1 first + i ≡ suc (first - 1 + i)
first_is first i = grind arith

up_to : (first i mark : ℕ) → first - 1 + i < mark → max 1 first + i ≤ mark
up_to first i mark h = grind arith

served_places : (log : Log) (first n i : ℕ) (g : Group) → slice_get (take n (servable log first)) i ≡ Some g
    → (numbered log.groups (max 1 first + i) ≡ Some g) × (max 1 first + i ≤ log.mark)
served_places log first n i g h =
    let a = in_take n (servable log first) i g h in
    let b = in_drop (first - 1) (take log.mark log.groups) i g a.0 in
    let c = in_take log.mark log.groups (first - 1 + i) g b in
    (at_place log.groups (first - 1 + i) (max 1 first + i) g (first_is first i) c.0, up_to first i log.mark c.1)

some_there : (g : Group) (gs : List Group) → 1 ≤ length (g ∷ gs)
some_there g gs = omega arith

served_from : (log : Log) (first : ℕ) (all gs : List Group) → all ≡ servable log first → (h : Group) (hs : List Group) → fitting all ≡ h ∷ hs → IsWithin (fitting all) → AreServed log (max 1 first) (h ∷ hs)
served_from log first all gs e h hs f within = record {
  places = λ i g at.
      served_places log first (length (fitting all)) i g
      (subst (λ xs. slice_get (take (length (fitting all)) xs) i ≡ Some g) e
      (subst (λ xs. slice_get xs i ≡ Some g) (fits_front true (MAX_BYTES - HEAD_BYTES) all) (subst (λ xs. slice_get xs i ≡ Some g) (sym f) at)));
  within = subst IsWithin f within;
  some = some_there h hs;
}

served : (log : Log) (first : ℕ) (all : List Group) → all ≡ servable log first → (h : Group) (hs : List Group) → fitting all ≡ h ∷ hs → AreServed log (max 1 first) (h ∷ hs)
served log first [] e h hs f = absurd (cc f)
served log first (g ∷ gs) e h hs f = served_from log first (g ∷ gs) gs e h hs f (fitting_within g gs)

-- ---- right after the step

-- What is sent in answer is so.
abbrev AllAre : Node → Note → Effect → Type 0
AllAre from cause effect = AllByRecursion (MessageIs effect.0 from cause) effect.1

serves_told : (s : LogStoreState) (from : Node) (writer : Writer) (first : ℕ) (gs : List Group) → fitting (servable (log_of s writer.0) first) ≡ gs
    → AllAre from (note.Fetch writer first) (serves s from writer gs)
serves_told s from writer first [] e = tt
serves_told s from writer first (g ∷ gs) e =
    (record { sender = refl; receiver = refl; stamp = refl; note = (refl, served (log_of s writer.0) first (servable (log_of s writer.0) first) refl g gs e) }, tt)

get_end : (xs : List Group) (y : Group) → slice_get (xs ++ y ∷ []) (length xs) ≡ Some y
get_end [] y = refl
get_end (x ∷ xs) y = get_end xs y

numbered_end : (groups : List Group) (g : Group) → nat_eq g.seq (length groups + 1) ≡ true → numbered (groups ++ g ∷ []) g.seq ≡ Some g
numbered_end groups g is = at_place (groups ++ g ∷ []) (length groups) g.seq g (next g.seq (length groups) is) (get_end groups g)
  where
    next : (n len : ℕ) → nat_eq n (len + 1) ≡ true → n ≡ suc len
    next n len is = grind (arith, nat_tests)

new_told : (s : LogStoreState) (from : Node) (g : Group) (b c : Bool) → nat_eq g.seq (length (log_of s g.writer.0).groups + 1) ≡ b
    → nat_lt (length (log_of s g.writer.0).groups + 1) g.seq ≡ c → AllAre from (note.Append g) (on_new s from g (log_of s g.writer.0) b c)
new_told s from g true c is above =
    let there = log_there s.logs g.writer.0 (with_group (log_of s g.writer.0) g) in
    let group : HasGroup (log_in (put s.logs g.writer.0 (with_group (log_of s g.writer.0) g)) g.writer.0) g = record {
      held = g;
      there = ap (λ (l : Log). numbered l.groups g.seq) there ∙ numbered_end (log_of s g.writer.0).groups g is;
      same = inl refl;
    } in
    (record { sender = refl; receiver = refl; stamp = refl; note = (refl, refl, group) }, tt)
new_told s from g false true is above =
    (record { sender = refl; receiver = refl; stamp = refl; note = (refl, refl, less (length (log_of s g.writer.0).groups + 1) g.seq above) }, tt)
  where
    less : (a b : ℕ) → nat_lt a b ≡ true → a < b
    less a b h = grind (arith, nat_tests)
new_told s from g false false is above = tt

held_told : (s : LogStoreState) (from : Node) (g held : Group) (b : Bool) → same_group held g ≡ b → numbered (log_of s g.writer.0).groups g.seq ≡ Some held
    → AllAre from (note.Append g) (on_held s from g b)
held_told s from g held true same is =
    let group : HasGroup (log_of s g.writer.0) g = record { held = held; there = is; same = inr same } in
    (record { sender = refl; receiver = refl; stamp = refl; note = (refl, refl, group) }, tt)
held_told s from g held false same is = tt

numbered_told : (s : LogStoreState) (from : Node) (g : Group) (held : Option Group) → numbered (log_of s g.writer.0).groups g.seq ≡ held
    → AllAre from (note.Append g) (on_numbered s from g (log_of s g.writer.0) held)
numbered_told s from g None is = new_told s from g (nat_eq g.seq (length (log_of s g.writer.0).groups + 1)) (nat_lt (length (log_of s g.writer.0).groups + 1) g.seq) refl refl
numbered_told s from g (Some held) is = held_told s from g held (same_group held g) refl is

unsealed_told : (s : LogStoreState) (from : Node) (g : Group) (b : Bool) → (log_of s g.writer.0).is_sealed ≡ b
    → AllAre from (note.Append g) (on_unsealed s from g (log_of s g.writer.0) b)
unsealed_told s from g true is =
    (record { sender = refl; receiver = refl; stamp = refl; note = (refl, record { sealed = is; long = refl }) }, tt)
unsealed_told s from g false is = numbered_told s from g (numbered (log_of s g.writer.0).groups g.seq) refl

seal_told : (s : LogStoreState) (writer : ℕ) → IsSealedWith (log_in (put s.logs writer (with_seal (log_of s writer))) writer) (length (log_of s writer).groups)
seal_told s writer =
    let there : log_in (put s.logs writer (with_seal (log_of s writer))) writer ≡ with_seal (log_of s writer) = log_there s.logs writer (with_seal (log_of s writer)) in
    record { sealed = ap (λ l. l.is_sealed) there; long = ap (λ l. length l.groups) there }

pub note_told : (s : LogStoreState) (from : Node) (n : Note) → AllAre from n (on_note s from n)
note_told s from (note.Append group) = unsealed_told s from group (log_of s group.writer.0).is_sealed refl
note_told s from (note.Stable writer seq) = tt
note_told s from (note.Seal writer) = (record { sender = refl; receiver = refl; stamp = refl; note = (refl, seal_told s writer.0) }, tt)
note_told s from (note.Closed writer len store) = tt
note_told s from (note.Roster entries) = tt
note_told s from (note.Fetch writer first) = serves_told s from writer first (fitting (servable (log_of s writer.0) first)) refl
note_told s from n = tt

pub step_told : (s : LogStoreState) (m : Message) → AllByRecursion (MessageIs (stepped s m).0 m.from m.note) (stepped s m).1
step_told s m = note_told (heard s m.stamp.0) m.from m.note

-- ---- what is answered in any case

past_none : (xs : List Group) (i : ℕ) → length xs ≤ i → slice_get xs i ≡ None
past_none [] i h = refl
past_none (x ∷ xs) zero h = absurd (omega (arith, h))
past_none (x ∷ xs) (suc i) h = let rest : length xs ≤ i = omega (arith, h) in past_none xs i rest

-- No group is held of a number past the last one.
none_past : (groups : List Group) (seq : ℕ) → length groups < seq → numbered groups seq ≡ None
none_past groups seq h = by (nat_eq seq 0)
  where
    less : (n l : ℕ) → l < n → l ≤ n - 1
    less n l h = grind arith

    by : (b : Bool) → cond b None (slice_get groups (seq - 1)) ≡ None
    by true = refl
    by false = past_none groups (seq - 1) (less seq (length groups) h)

answer_open : (s : LogStoreState) (from : Node) (g : Group) (o : Option Group) → (log_of s g.writer.0).is_sealed ≡ false → numbered (log_of s g.writer.0).groups g.seq ≡ o
    → (on_append s from g).1 ≡ (on_numbered s from g (log_of s g.writer.0) o).1
answer_open s from g o open_ is =
    ap (λ b. (on_unsealed s from g (log_of s g.writer.0) b).1) open_ ∙ ap (λ o. (on_numbered s from g (log_of s g.writer.0) o).1) is

next_true : (a b : ℕ) → a ≡ b → nat_eq a b ≡ true
next_true a b h = grind (arith, nat_tests)

above_false : (a b : ℕ) → b < a → nat_eq a b ≡ false
above_false a b h = grind (arith, nat_tests)

above_true : (a b : ℕ) → b < a → nat_lt b a ≡ true
above_true a b h = grind (arith, nat_tests)

append_answered : (s : LogStoreState) (m : Message) (g : Group) → m.note ≡ note.Append g → AppendAnswered s m g (log_of s g.writer.0)
append_answered s m g is =
    let h : LogStoreState = heard s m.stamp.0 in
    let log : Log = log_of s g.writer.0 in
    let step : (stepped s m).1 ≡ (on_append h m.from g).1 = ap (λ n. (on_note h m.from n).1) is in
    record {
      sealed = λ sealed. step ∙ ap (λ b. (on_unsealed h m.from g log b).1) sealed;
      next = λ open_ at.
          let past : length log.groups < g.seq = omega (arith, at) in
          step
          ∙ (answer_open h m.from g None open_ (none_past log.groups g.seq past)
          ∙ ap (λ b. (on_new h m.from g log b (nat_lt (length log.groups + 1) g.seq)).1) (next_true g.seq (length log.groups + 1) at));
      held = λ open_ x at same. step ∙ (answer_open h m.from g (Some x) open_ at ∙ ap (λ b. (on_held h m.from g b).1) same);
      above = λ open_ more.
          let past : length log.groups < g.seq = omega (arith, more) in
          step
          ∙ (answer_open h m.from g None open_ (none_past log.groups g.seq past)
          ∙ (ap (λ b. (on_new h m.from g log b (nat_lt (length log.groups + 1) g.seq)).1) (above_false g.seq (length log.groups + 1) more)
          ∙ ap (λ b. (on_new h m.from g log false b).1) (above_true g.seq (length log.groups + 1) more)));
    }

-- There is a group to be served from a number on that is held and within the mark.
some_left : (xs : List Group) (n : ℕ) → n < length xs → (g : Group) × (gs : List Group) × (drop n xs ≡ g ∷ gs)
some_left [] n h = absurd (omega (arith, h))
some_left (x ∷ xs) zero h = (x, xs, refl)
some_left (x ∷ xs) (suc n) h = let less : n < length xs = omega (arith, h) in some_left xs n less

taken_length : (n : ℕ) (xs : List Group) (i : ℕ) → i < n → i < length xs → i < length (take n xs)
taken_length zero xs i h k = absurd (omega (arith, h))
taken_length (suc n) [] i h k = absurd (omega (arith, k))
taken_length (suc n) (x ∷ xs) zero h k = omega arith
taken_length (suc n) (x ∷ xs) (suc i) h k =
    let a : i < n = omega (arith, h) in
    let b : i < length xs = omega (arith, k) in
    let r : i < length (take n xs) = taken_length n xs i a b in
    omega (arith, r)

some_servable : (groups : List Group) (first mark : ℕ) → max 1 first ≤ mark → max 1 first ≤ length groups → (g : Group) × (gs : List Group) × (drop (first - 1) (take mark groups) ≡ g ∷ gs)
some_servable groups first mark marked held = some_left (take mark groups) (first - 1) (taken_length mark groups (first - 1) (below first mark marked) (below first (length groups) held))
  where
    below : (n k : ℕ) → max 1 n ≤ k → n - 1 < k
    below n k h = grind arith

served_some : (s : LogStoreState) (from : Node) (stamp : ℕ) (writer : Writer) (all : List Group) → (g : Group) × (gs : List Group) × (all ≡ g ∷ gs)
    → (groups : List Group) × ((serves (heard s stamp) from writer (fitting all)).1 ≡ message (heard s stamp) from (note.Groups writer groups) ∷ [])
served_some s from stamp writer all h =
    (h.0 ∷ fits false (MAX_BYTES - HEAD_BYTES - group_size h.0) h.1, ap (λ xs. (serves (heard s stamp) from writer (fitting xs)).1) h.2)

note_answered : (s : LogStoreState) (m : Message) (n : Note) → m.note ≡ n → IsAnswered s m n
note_answered s m (note.Append g) is = append_answered s m g is
note_answered s m (note.Seal writer) is = ap (λ n. (on_note (heard s m.stamp.0) m.from n).1) is
note_answered s m (note.Fetch writer first) is = λ marked held.
    let all : List Group = servable (log_of s writer.0) first in
    let k = served_some s m.from m.stamp.0 writer all (some_servable (log_of s writer.0).groups first (log_of s writer.0).mark marked held) in
    (k.0, ap (λ n. (on_note (heard s m.stamp.0) m.from n).1) is ∙ k.1)
note_answered s m n is = tt

pub step_answered : (s : LogStoreState) (m : Message) → IsAnswered s m m.note
step_answered s m = note_answered s m m.note refl

pub tick_told : (s : LogStoreState) → AsksRoster s
tick_told s = refl

-- ---- ever after

one_at_least : (n : ℕ) → 1 ≤ max 1 n
one_at_least n = grind arith

note_true : (s : LogStoreState) (hard : ℕ → ℕ) (cause said : Note) → ((w : ℕ) → (log_of s w).mark ≤ hard w) → NoteIs s cause said → NoteFact s hard said
note_true s hard (note.Append g) (note.Ack writer seq) marks h =
    (h.2.held, subst (λ w. numbered (log_of s w.0).groups seq ≡ Some h.2.held) (sym h.0) (subst (λ n. numbered (log_of s g.writer.0).groups n ≡ Some h.2.held) (sym h.1) h.2.there))
note_true s hard (note.Append g) (note.Gap writer next) marks h =
    let e : next ≡ length (log_of s writer.0).groups + 1 = subst (λ w. next ≡ length (log_of s w.0).groups + 1) (sym h.0) h.1 in omega (arith, e)
note_true s hard (note.Append g) (note.Sealed writer len) marks h = subst (λ w. IsSealedWith (log_of s w.0) len) (sym h.0) h.1
note_true s hard (note.Seal named) (note.SealedAt writer len) marks h = subst (λ w. IsSealedWith (log_of s w.0) len) (sym h.0) h.1
note_true s hard (note.Fetch named first) (note.Groups writer groups) marks h =
    subst (λ w. WereServed (log_of s w.0) (hard w.0) groups) (sym h.0) (record {
      first = max 1 first;
      least = one_at_least first;
      places = λ i g at.
          let p = h.1.places i g at in
          let low : max 1 first + i ≤ (log_of s named.0).mark = p.1 in
          let high : (log_of s named.0).mark ≤ hard named.0 = marks named.0 in
          (p.0, omega (arith, low, high));
    })
note_true s hard cause said marks h = absurd h

pub message_true : (s : LogStoreState) (hard : ℕ → ℕ) (from : Node) (cause : Note) (m : Message) → ((w : ℕ) → (log_of s w).mark ≤ hard w) → MessageIs s from cause m → MessageFact s hard m
message_true s hard from cause m marks h = record { sender = h.sender; note = note_true s hard cause m.note marks h.note }

all_true : (s : LogStoreState) (hard : ℕ → ℕ) (from : Node) (cause : Note) (ms : List Message) → ((w : ℕ) → (log_of s w).mark ≤ hard w) → AllByRecursion (MessageIs s from cause) ms
    → AllByRecursion (MessageFact s hard) ms
all_true s hard from cause [] marks h = tt
all_true s hard from cause (m ∷ ms) marks h = (message_true s hard from cause m marks h.0, all_true s hard from cause ms marks h.1)

pub step_true : (s : LogStoreState) (m : Message) (hard : ℕ → ℕ) → ((w : ℕ) → (log_of (stepped s m).0 w).mark ≤ hard w) → AllByRecursion (MessageFact (stepped s m).0 hard) (stepped s m).1
step_true s m hard marks = all_true (stepped s m).0 hard m.from m.note (stepped s m).1 marks (step_told s m)

pub tick_true : (s : LogStoreState) (hard : ℕ → ℕ) → AllByRecursion (MessageFact (ticked s).0 hard) (ticked s).1
tick_true s hard = (record { sender = refl; note = tt }, tt)

-- a place in a front is one in the whole
place_more : (xs more : List Group) (i : ℕ) (g : Group) → slice_get xs i ≡ Some g → slice_get (xs ++ more) i ≡ Some g
place_more [] more i g h = absurd (cc h)
place_more (x ∷ xs) more zero g h = h
place_more (x ∷ xs) more (suc i) g h = place_more xs more i g h

pub front_place : (old new : List Group) (i : ℕ) (g : Group) → IsFront old new → slice_get old i ≡ Some g → slice_get new i ≡ Some g
front_place old new i g f h = subst (λ xs. slice_get xs i ≡ Some g) (sym f.1) (place_more old f.0 i g h)

pub front_numbered : (old new : List Group) (seq : ℕ) (g : Group) → IsFront old new → numbered old seq ≡ Some g → numbered new seq ≡ Some g
front_numbered old new seq g f h = by (nat_eq seq 0) h
  where
    by : (b : Bool) → cond b None (slice_get old (seq - 1)) ≡ Some g → cond b None (slice_get new (seq - 1)) ≡ Some g
    by true h = h
    by false h = front_place old new (seq - 1) g f h

longer : (xs more : List Group) → length xs ≤ length (xs ++ more)
longer [] more = omega arith
longer (x ∷ xs) more = let l : length xs ≤ length (xs ++ more) = longer xs more in omega (arith, l)

pub front_length : (old new : List Group) → IsFront old new → length old ≤ length new
front_length old new f = subst (λ xs. length old ≤ length xs) (sym f.1) (longer old f.0)

sealed_goes : (old new : Log) (len : ℕ) → LogGoes old new → IsSealedWith old len → IsSealedWith new len
sealed_goes old new len g h = record { sealed = (g.sealed h.sealed).0; long = ap length (g.sealed h.sealed).1 ∙ h.long }

note_stays : (s t : LogStoreState) (hard new_hard : ℕ → ℕ) (n : Note) → Goes s t → ((w : ℕ) → hard w ≤ new_hard w) → NoteFact s hard n → NoteFact t new_hard n
note_stays s t hard new_hard (note.Ack writer seq) g more h =
    (h.0, front_numbered (log_of s writer.0).groups (log_of t writer.0).groups seq h.0 (g.logs writer.0).front h.1)
note_stays s t hard new_hard (note.Gap writer next) g more h =
    let low : next ≤ length (log_of s writer.0).groups + 1 = h in
    let l : length (log_of s writer.0).groups ≤ length (log_of t writer.0).groups = front_length (log_of s writer.0).groups (log_of t writer.0).groups (g.logs writer.0).front in
    omega (arith, low, l)
note_stays s t hard new_hard (note.Sealed writer len) g more h = sealed_goes (log_of s writer.0) (log_of t writer.0) len (g.logs writer.0) h
note_stays s t hard new_hard (note.SealedAt writer len) g more h = sealed_goes (log_of s writer.0) (log_of t writer.0) len (g.logs writer.0) h
note_stays s t hard new_hard (note.Groups writer groups) g more h = record {
  first = h.first;
  least = h.least;
  places = λ i x at.
      let p = h.places i x at in
      let low : h.first + i ≤ hard writer.0 = p.1 in
      let high : hard writer.0 ≤ new_hard writer.0 = more writer.0 in
      (front_numbered (log_of s writer.0).groups (log_of t writer.0).groups (h.first + i) x (g.logs writer.0).front p.0, omega (arith, low, high));
}
note_stays s t hard new_hard (note.Want None) g more h = tt
note_stays s t hard new_hard n g more h = absurd h

pub message_stays : (s t : LogStoreState) (hard new_hard : ℕ → ℕ) (m : Message) → Goes s t → ((w : ℕ) → hard w ≤ new_hard w) → MessageFact s hard m → MessageFact t new_hard m
message_stays s t hard new_hard m g more h = record { sender = h.sender ∙ ap LogStore (sym g.number); note = note_stays s t hard new_hard m.note g more h.note }

-- ---- a length that was named

named_note : (s : LogStoreState) (cause said : Note) (writer len : ℕ) → NoteIs s cause said → NamesIn said writer len → IsSealedWith (log_of s writer) len
named_note s (note.Seal named) (note.SealedAt of at) writer len h is =
    subst (IsSealedWith (log_of s writer)) is.1 (subst (λ w. IsSealedWith (log_of s w) at) (ap (λ (w : Writer). w.0) (sym h.0) ∙ is.0) h.1)
named_note s cause (note.SealedAt of at) writer len h is = absurd h
named_note s cause said writer len h is = absurd is

named_sealed : (s : LogStoreState) (from : Node) (cause : Note) (ms : List Message) (writer len : ℕ) → AllByRecursion (MessageIs s from cause) ms → Names ms writer len
    → IsSealedWith (log_of s writer) len
named_sealed s from cause [] writer len h is = absurd is
named_sealed s from cause (m ∷ ms) writer len h (inl is) = named_note s cause m.note writer len h.0.note is
named_sealed s from cause (m ∷ ms) writer len h (inr is) = named_sealed s from cause ms writer len h.1 is

named_taken : (s : LogStoreState) (input : LogInput) (writer len : ℕ) → Names (taken s input).1 writer len → IsSealedWith (log_of (taken s input).0 writer) len
named_taken s (Hears m) writer len is = named_sealed (stepped s m).0 m.from m.note (stepped s m).1 writer len (step_told s m) is
named_taken s Ticks writer len (inl is) = absurd is
named_taken s Ticks writer len (inr is) = absurd is

pub named_stays : (number : ℕ) (inputs : List LogInput) (input : LogInput) (more : List LogInput) (writer len : ℕ)
    → Names (taken (run (start number) inputs) input).1 writer len → length (log_of (run (taken (run (start number) inputs) input).0 more) writer).groups ≡ len
named_stays number inputs input more writer len h =
    let s : LogStoreState = (taken (run (start number) inputs) input).0 in
    let there : IsSealedWith (log_of s writer) len = named_taken (run (start number) inputs) input writer len h in
    ap length (sealed_from s more writer there.sealed) ∙ there.long
