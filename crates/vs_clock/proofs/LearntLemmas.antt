-- What was learnt, joined, is what was heard.
use Rattle.std.proofs.Common.{◌≡◌, ℕ, Bool, true, false, cond, max, nat_eq, nat_lt, not, List, [], ◌∷◌, refl, sym, ◌∙◌, ap, arith}
use Rattle.std.proofs.lemmas.Bool.Decides.{nat_tests}
use Rattle.tm_data.specs.declared.vector.VectorEntry.{VectorEntry}
use Rattle.tm_data.specs.Vectors.{IsVector, joined, stamp_of}
use Rattle.tm_data.proofs.VectorLemmas.{joined_ascends, joined_stamp, same_vector}
use Rattle.vs_clock.specs.State.{State, started, heard_vector, can_tick, news, others, told}
use Rattle.vs_clock.specs.Learnt.{Call, Ticks, HearsScalar, HearsVector, Tells, tried_tick, called, called_all, learnt_vectors, joined_all, HearsVectors, LearntIsHeard}
use Rattle.vs_clock.proofs.StateLemmas.{heard_ascends, rising_ascends, news_stamp, part_ascends}

-- The state of a clock, with all that was told before.
record Telling (before : List VectorEntry) (s : State) : Type 0 where
  pub told_vector : IsVector before
  pub heard_vector : IsVector s.heard
  pub untold_vector : IsVector s.untold
  pub all : (w : ℕ) → stamp_of s.heard w ≡ max (stamp_of before w) (stamp_of s.untold w)

untold_next : (t u h o : ℕ) → h ≡ max t u → max h o ≡ max t (max u (cond (nat_lt h o) o 0))
untold_next t u h o all = grind (arith, nat_tests)

others_ascend : (own : ℕ) (vector : List VectorEntry) → IsVector vector → IsVector (others own vector)
others_ascend own vector v = part_ascends (λ e. not (nat_eq e.writer.0 own)) 0 vector v

vector_telling : (before : List VectorEntry) (s : State) (vector : List VectorEntry) → IsVector vector → Telling before s → Telling before (heard_vector s vector)
vector_telling before s vector v t =
    let rest = others_ascend s.writer vector v in
    let new = rising_ascends s.heard vector s.writer v in
    record {
      told_vector = t.told_vector;
      heard_vector = heard_ascends s vector t.heard_vector v;
      untold_vector = joined_ascends 0 s.untold (news s.heard (others s.writer vector)) t.untold_vector new;
      all = λ w. joined_stamp s.heard (others s.writer vector) w t.heard_vector rest
          ∙ untold_next (stamp_of before w) (stamp_of s.untold w) (stamp_of s.heard w) (stamp_of (others s.writer vector) w) (t.all w)
          ∙ ap (λ n. max (stamp_of before w) (max (stamp_of s.untold w) n)) (sym (news_stamp s.heard 0 (others s.writer vector) w rest))
          ∙ ap (λ n. max (stamp_of before w) n) (sym (joined_stamp s.untold (news s.heard (others s.writer vector)) w t.untold_vector new));
    }

told_telling : (before : List VectorEntry) (s : State) → Telling before s → Telling (joined before s.untold) (told s)
told_telling before s t = record {
  told_vector = joined_ascends 0 before s.untold t.told_vector t.untold_vector;
  heard_vector = t.heard_vector;
  untold_vector = tt;
  all = λ w. t.all w ∙ sym (joined_stamp before s.untold w t.told_vector t.untold_vector) ∙ zero_more (stamp_of (joined before s.untold) w);
}
  where
    zero_more : (n : ℕ) → n ≡ max n 0
    zero_more n = omega arith

tick_telling : (before : List VectorEntry) (s : State) (test : Bool) → Telling before s → Telling before (tried_tick s test)
tick_telling before s true t = record { told_vector = t.told_vector; heard_vector = t.heard_vector; untold_vector = t.untold_vector; all = t.all }
tick_telling before s false t = t

-- What is learnt from here on, joined to what was told before, is what is heard in the end.
record Learns (before : List VectorEntry) (s : State) (calls : List Call) : Type 0 where
  pub heard_vector : IsVector (called_all s calls).heard
  pub learnt_vector : IsVector (joined_all (learnt_vectors s calls))
  pub all : (w : ℕ) → stamp_of (called_all s calls).heard w ≡ max (stamp_of before w) (stamp_of (joined_all (learnt_vectors s calls)) w)

tells_learns : (before : List VectorEntry) (s : State) (calls : List Call) → Telling before s → Learns (joined before s.untold) (told s) calls → Learns before s (Tells ∷ calls)
tells_learns before s calls t l = record {
  heard_vector = l.heard_vector;
  learnt_vector = joined_ascends 0 s.untold (joined_all (learnt_vectors (told s) calls)) t.untold_vector l.learnt_vector;
  all = λ w. l.all w
      ∙ ap (λ n. max n (stamp_of (joined_all (learnt_vectors (told s) calls)) w)) (joined_stamp before s.untold w t.told_vector t.untold_vector)
      ∙ regroup (stamp_of before w) (stamp_of s.untold w) (stamp_of (joined_all (learnt_vectors (told s) calls)) w)
      ∙ ap (λ n. max (stamp_of before w) n) (sym (joined_stamp s.untold (joined_all (learnt_vectors (told s) calls)) w t.untold_vector l.learnt_vector));
}
  where
    regroup : (a b c : ℕ) → max (max a b) c ≡ max a (max b c)
    regroup a b c = omega arith

learns : (before : List VectorEntry) (s : State) (calls : List Call) → HearsVectors calls → Telling before s → Learns before s calls
learns before s [] v t = record { heard_vector = t.heard_vector; learnt_vector = t.untold_vector; all = t.all }
learns before s (Ticks ∷ calls) v t =
    let l = learns before (tried_tick s (can_tick s)) calls v (tick_telling before s (can_tick s) t) in
    record { heard_vector = l.heard_vector; learnt_vector = l.learnt_vector; all = l.all }
learns before s (HearsScalar stamp ∷ calls) v t =
    let l = learns before (called s (HearsScalar stamp)) calls v (record { told_vector = t.told_vector; heard_vector = t.heard_vector; untold_vector = t.untold_vector; all = t.all }) in
    record { heard_vector = l.heard_vector; learnt_vector = l.learnt_vector; all = l.all }
learns before s (HearsVector vector ∷ calls) v t =
    let l = learns before (heard_vector s vector) calls v.1 (vector_telling before s vector v.0 t) in
    record { heard_vector = l.heard_vector; learnt_vector = l.learnt_vector; all = l.all }
learns before s (Tells ∷ calls) v t = tells_learns before s calls t (learns (joined before s.untold) (told s) calls v (told_telling before s t))

pub learnt_is_heard : (writer start : ℕ) (calls : List Call) → HearsVectors calls → LearntIsHeard writer start calls
learnt_is_heard writer start calls v =
    let l = learns [] (started writer start) calls v (record { told_vector = tt; heard_vector = tt; untold_vector = tt; all = λ w. refl }) in
    same_vector (joined_all (learnt_vectors (started writer start) calls)) (called_all (started writer start) calls).heard l.learnt_vector l.heard_vector
    (λ w. sym (l.all w ∙ zero_first (stamp_of (joined_all (learnt_vectors (started writer start) calls)) w)))
  where
    zero_first : (n : ℕ) → max 0 n ≡ n
    zero_first n = omega arith
