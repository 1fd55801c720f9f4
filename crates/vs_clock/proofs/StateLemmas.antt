-- What the vectors of a clock say of each writer.
use Rattle.std.proofs.Common.{◌≡◌, ◌≤◌, ℕ, Bool, true, false, cond, not, max, nat_eq, nat_lt, List, [], ◌∷◌, ◌-◌, ◌^◌, length, refl, sym, ◌∙◌, ap, subst, arith}
use Rattle.std.specs.List.{filter}
use Rattle.std.proofs.lemmas.Bool.Decides.{nat_tests}
use Rattle.tm_data.specs.declared.vector.VectorEntry.{VectorEntry}
use Rattle.tm_data.specs.Vectors.{AscendsAbove, IsVector, greatest, joined, single, stamp_of}
use Rattle.tm_data.proofs.VectorLemmas.{above_less, stamp_below, joined_ascends, joined_stamp, same_vector, single_is_vector, stamp_greatest, greatest_least}
use Rattle.vs_clock.specs.State.{State, started, others, news, sending, heard_vector, IsSound}

-- A part of a vector is a vector.
pub part_ascends : (test : VectorEntry → Bool) (after : ℕ) (es : List VectorEntry) → AscendsAbove after es → AscendsAbove after (filter test es)
part_ascends test after [] v = tt
part_ascends test after (e ∷ es) v = by_test (test e) (part_ascends test e.writer.0 es v.2)
  where
    by_test : (b : Bool) → AscendsAbove e.writer.0 (filter test es) → AscendsAbove after (cond b (e ∷ filter test es) (filter test es))
    by_test true rest = (v.0, v.1, rest)
    by_test false rest = above_less e.writer.0 after (filter test es) (omega (arith, v.0)) rest

-- The stamps of the parts.
others_next : (own : ℕ) (e : VectorEntry) (es rest : List VectorEntry) (w : ℕ) → stamp_of rest w ≡ cond (nat_eq w own) 0 (stamp_of es w)
    → stamp_of (cond (not (nat_eq e.writer.0 own)) (e ∷ rest) rest) w ≡ cond (nat_eq w own) 0 (stamp_of (e ∷ es) w)
others_next own e es rest w is = grind (arith, nat_tests)

pub others_stamp : (own : ℕ) (es : List VectorEntry) (w : ℕ) → stamp_of (others own es) w ≡ cond (nat_eq w own) 0 (stamp_of es w)
others_stamp own [] w = grind (arith, nat_tests)
others_stamp own (e ∷ es) w = others_next own e es (others own es) w (others_stamp own es w)

news_next : (known : List VectorEntry) (e : VectorEntry) (es rest : List VectorEntry) (w : ℕ) → (w ≤ e.writer.0 → stamp_of es w ≡ 0)
    → (w ≡ e.writer.0 → stamp_of known w ≡ stamp_of known e.writer.0)
    → stamp_of rest w ≡ cond (nat_lt (stamp_of known w) (stamp_of es w)) (stamp_of es w) 0
    → stamp_of (cond (nat_lt (stamp_of known e.writer.0) e.stamp.0) (e ∷ rest) rest) w ≡ cond (nat_lt (stamp_of known w) (stamp_of (e ∷ es) w)) (stamp_of (e ∷ es) w) 0
news_next known e es rest w none same is = grind (arith, nat_tests)

pub news_stamp : (known : List VectorEntry) (after : ℕ) (es : List VectorEntry) (w : ℕ) → AscendsAbove after es
    → stamp_of (news known es) w ≡ cond (nat_lt (stamp_of known w) (stamp_of es w)) (stamp_of es w) 0
news_stamp known after [] w v = grind (arith, nat_tests)
news_stamp known after (e ∷ es) w v =
    news_next known e es (news known es) w (λ l. stamp_below e.writer.0 es w v.2 l) (λ same. ap (stamp_of known) same) (news_stamp known e.writer.0 es w v.2)

pub single_stamp : (writer stamp w : ℕ) → stamp_of (single writer stamp) w ≡ cond (nat_eq w writer) stamp 0
single_stamp writer stamp w = grind (arith, nat_tests)

-- The vector that a clock sends, and what it has heard after a receipt.
pub sending_vector : (s : State) (durable : ℕ) → IsVector s.heard → 1 ≤ s.writer → IsVector (sending s durable)
sending_vector s durable v one = joined_ascends 0 s.heard (single s.writer durable) v (single_is_vector s.writer durable one)

pub sending_stamp : (s : State) (durable w : ℕ) → IsVector s.heard → 1 ≤ s.writer → stamp_of (sending s durable) w ≡ max (stamp_of s.heard w) (cond (nat_eq w s.writer) durable 0)
sending_stamp s durable w v one =
    joined_stamp s.heard (single s.writer durable) w v (single_is_vector s.writer durable one) ∙ ap (λ n. max (stamp_of s.heard w) n) (single_stamp s.writer durable w)

pub heard_ascends : (s : State) (vector : List VectorEntry) → IsVector s.heard → IsVector vector → IsVector (heard_vector s vector).heard
heard_ascends s vector v u = joined_ascends 0 s.heard (others s.writer vector) v (part_ascends (λ e. not (nat_eq e.writer.0 s.writer)) 0 vector u)

pub heard_stamp : (s : State) (vector : List VectorEntry) (w : ℕ) → IsVector s.heard → IsVector vector
    → stamp_of (heard_vector s vector).heard w ≡ max (stamp_of s.heard w) (cond (nat_eq w s.writer) 0 (stamp_of vector w))
heard_stamp s vector w v u =
    joined_stamp s.heard (others s.writer vector) w v (part_ascends (λ e. not (nat_eq e.writer.0 s.writer)) 0 vector u)
    ∙ ap (λ n. max (stamp_of s.heard w) n) (others_stamp s.writer vector w)

-- Hearing what is new is hearing all.
news_enough : (h o : ℕ) → max h (cond (nat_lt h o) o 0) ≡ max h o
news_enough h o = grind (arith, nat_tests)

pub hearing_news : (known vector : List VectorEntry) → IsVector known → IsVector vector → joined known (news known vector) ≡ joined known vector
hearing_news known vector v u =
    let new : IsVector (news known vector) = part_ascends (λ e. nat_lt (stamp_of known e.writer.0) e.stamp.0) 0 vector u in
    same_vector (joined known (news known vector)) (joined known vector) (joined_ascends 0 known (news known vector) v new) (joined_ascends 0 known vector v u)
    (λ w. joined_stamp known (news known vector) w v new
    ∙ ap (λ n. max (stamp_of known w) n) (news_stamp known 0 vector w u)
    ∙ news_enough (stamp_of known w) (stamp_of vector w)
    ∙ sym (joined_stamp known vector w v u))

-- What each call leaves is sound.
pub started_sound : (writer start : ℕ) → 1 ≤ writer → start ≤ 2 ^ 63 - 1 → IsSound (started writer start)
started_sound writer start one fits = record {
  from_one = one;
  heard_ascends = tt;
  untold_ascends = tt;
  heard_others = refl;
  untold_heard = λ w. omega arith;
  heard_below = omega arith;
  scalar_fits = fits;
}

untold_number : (u h o : ℕ) → u ≤ h → max u (cond (nat_lt h o) o 0) ≤ max h o
untold_number u h o less = grind (arith, nat_tests)

others_most : (v w own most : ℕ) → v ≤ most → cond (nat_eq w own) 0 v ≤ most
others_most v w own most h = grind (arith, nat_tests)

own_none : (h v w own : ℕ) → w ≡ own → h ≡ 0 → max h (cond (nat_eq w own) 0 v) ≡ 0
own_none h v w own same none = grind (arith, nat_tests)

pub hearing_sound : (s : State) (vector : List VectorEntry) → IsSound s → IsVector vector → greatest vector ≤ 2 ^ 63 - 1 → IsSound (heard_vector s vector)
hearing_sound s vector sound v fits =
    let rest : IsVector (others s.writer vector) = part_ascends (λ e. not (nat_eq e.writer.0 s.writer)) 0 vector v in
    let new : IsVector (news s.heard (others s.writer vector)) = part_ascends (λ e. nat_lt (stamp_of s.heard e.writer.0) e.stamp.0) 0 (others s.writer vector) rest in
    record {
      from_one = sound.from_one;
      heard_ascends = heard_ascends s vector sound.heard_ascends v;
      untold_ascends = joined_ascends 0 s.untold (news s.heard (others s.writer vector)) sound.untold_ascends new;
      heard_others = heard_stamp s vector s.writer sound.heard_ascends v ∙ own_none (stamp_of s.heard s.writer) (stamp_of vector s.writer) s.writer s.writer refl sound.heard_others;
      untold_heard = λ w.
          let left : stamp_of (joined s.untold (news s.heard (others s.writer vector))) w ≡ max (stamp_of s.untold w) (cond (nat_lt (stamp_of s.heard w) (stamp_of (others s.writer vector) w)) (stamp_of (others s.writer vector) w) 0)
          = joined_stamp s.untold (news s.heard (others s.writer vector)) w sound.untold_ascends new
          ∙ ap (λ n. max (stamp_of s.untold w) n) (news_stamp s.heard 0 (others s.writer vector) w rest) in
          let right = joined_stamp s.heard (others s.writer vector) w sound.heard_ascends rest in
          subst (λ n. n ≤ stamp_of (joined s.heard (others s.writer vector)) w) (sym left)
          (subst (λ n. max (stamp_of s.untold w) (cond (nat_lt (stamp_of s.heard w) (stamp_of (others s.writer vector) w)) (stamp_of (others s.writer vector) w) 0) ≤ n) (sym right)
          (untold_number (stamp_of s.untold w) (stamp_of s.heard w) (stamp_of (others s.writer vector) w) (sound.untold_heard w)));
      heard_below = greatest_least 0 (heard_vector s vector).heard (max s.scalar (greatest vector)) (heard_ascends s vector sound.heard_ascends v)
          (λ w. subst (λ n. n ≤ max s.scalar (greatest vector)) (sym (heard_stamp s vector w sound.heard_ascends v))
          (omega (arith, stamp_greatest s.heard w, sound.heard_below, others_most (stamp_of vector w) w s.writer (greatest vector) (stamp_greatest vector w))));
      scalar_fits = omega (arith, sound.scalar_fits, fits);
    }

sent_most : (h d w own most : ℕ) → h ≤ most → d ≤ most → max h (cond (nat_eq w own) d 0) ≤ most
sent_most h d w own most p q = grind (arith, nat_tests)

pub sending_fits : (s : State) (durable : ℕ) → IsSound s → durable ≤ 2 ^ 63 - 1 → greatest (sending s durable) ≤ 2 ^ 63 - 1
sending_fits s durable sound fits =
    greatest_least 0 (sending s durable) (2 ^ 63 - 1) (sending_vector s durable sound.heard_ascends sound.from_one)
    (λ w. subst (λ n. n ≤ 2 ^ 63 - 1) (sym (sending_stamp s durable w sound.heard_ascends sound.from_one))
    (sent_most (stamp_of s.heard w) durable w s.writer (2 ^ 63 - 1) (omega (arith, stamp_greatest s.heard w, sound.heard_below, sound.scalar_fits)) fits))

pub rising_ascends : (known vector : List VectorEntry) (own : ℕ) → IsVector vector → IsVector (news known (others own vector))
rising_ascends known vector own v =
    part_ascends (λ e. nat_lt (stamp_of known e.writer.0) e.stamp.0) 0 (others own vector) (part_ascends (λ e. not (nat_eq e.writer.0 own)) 0 vector v)

abbrev pub state : ℕ → ℕ → List VectorEntry → List VectorEntry → State
state writer scalar heard untold = record { writer = writer; scalar = scalar; heard = heard; untold = untold }

state_parts : (writer scalar scalar' : ℕ) (heard heard' untold untold' : List VectorEntry) → scalar ≡ scalar' → heard ≡ heard' → untold ≡ untold'
    → state writer scalar heard untold ≡ state writer scalar' heard' untold'
state_parts writer scalar scalar' heard heard' untold untold' p q r = λ i. state writer (p i) (q i) (r i)

-- The state after hearing a vector, by what is new in it.
pub hears_news : (s : State) (vector new : List VectorEntry) → IsSound s → IsVector vector → new ≡ news s.heard (others s.writer vector)
    → heard_vector s vector ≡ state s.writer (max s.scalar (greatest vector)) (joined s.heard new) (joined s.untold new)
hears_news s vector new sound v is =
    ap (λ z. state s.writer (max s.scalar (greatest vector)) z (joined s.untold (news s.heard (others s.writer vector))))
    (sym (hearing_news s.heard (others s.writer vector) sound.heard_ascends (part_ascends (λ e. not (nat_eq e.writer.0 s.writer)) 0 vector v)))
    ∙ ap (λ z. state s.writer (max s.scalar (greatest vector)) (joined s.heard z) (joined s.untold z)) (sym is)

pub news_taken : (s : State) (vector entries new heard untold : List VectorEntry) (scalar most : ℕ) → entries ≡ vector → IsSound s → IsVector entries
    → new ≡ news s.heard (others s.writer entries) → heard ≡ joined s.heard new → untold ≡ joined s.untold new → most ≡ greatest vector → scalar ≡ max s.scalar most
    → state s.writer scalar heard untold ≡ heard_vector s vector
news_taken s vector entries new heard untold scalar most same sound v is is_heard is_untold is_most is_scalar =
    state_parts s.writer scalar (max s.scalar (greatest vector)) heard (joined s.heard new) untold (joined s.untold new) (is_scalar ∙ ap (λ n. max s.scalar n) is_most) is_heard is_untold
    ∙ sym (hears_news s vector new sound (subst IsVector same v) (is ∙ ap (λ z. news s.heard (others s.writer z)) same))

pub nothing_new : (new entries : List VectorEntry) (test : Bool) → entries ≡ new → test ≡ nat_eq (length entries) 0 → test ≡ true → [] ≡ new
nothing_new new [] test same is h = same
nothing_new new (e ∷ es) test same is h = absurd (grind (arith, nat_tests))
