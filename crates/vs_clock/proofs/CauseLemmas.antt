-- Where every send is by vector and names the last tick, a tick's vector covers just what happened before.
use Rattle.std.proofs.Common.{◌≡◌, ◌<◌, ◌≤◌, ◌+◌, ◌⊎◌, inl, inr, ℕ, Bool, true, false, cond, max, nat_eq, List, [], ◌∷◌, ◌++◌, Option, Some, None, length, refl, sym, ◌∙◌, ap, subst, arith, append_assoc}
use Rattle.std.proofs.lemmas.List.{append-nil}
use Rattle.std.proofs.lemmas.Bool.Decides.{nat_tests}
use Rattle.std.specs.Prelude.{slice_get}
use Rattle.tm_data.specs.Vectors.{IsVector, stamp_of}
use Rattle.vs_clock.specs.State.{can_tick, ticked, sending, heard_scalar}
use Rattle.vs_clock.specs.Run.{Event, Tick, SendScalar, SendVector, Receive, clock_of, Clock, Mark, World, begun, with_clock, left, with_state, tick_done, hearing, received, happens, run}
use Rattle.vs_clock.specs.Causes.{IsSend, HappenedBefore, same_clock, message, through}
use Rattle.vs_clock.specs.Laws.{Ticked, NameWriters, Prompt, IsPrompt, CoversItsCauses}
use Rattle.vs_clock.proofs.PlaceLemmas.{get_old, get_new, old_or_new, place_below, image_at}
use Rattle.vs_clock.proofs.ChainLemmas.{with_clock_at, Chained, chained_at_start, Goes, chains_go_on, goes_along}
use Rattle.vs_clock.proofs.StateLemmas.{sending_vector, sending_stamp, heard_stamp}
use Rattle.vs_clock.proofs.DurableLemmas.{Plain, Heard, happens_heard, start_heard, length_of_same}

-- What a clock knows of each writer: of the others what it heard, of its own the last tick.
abbrev knows : Clock → ℕ → ℕ
knows p v = max (stamp_of p.state.heard v) (cond (nat_eq v p.state.writer) p.last 0)

abbrev KnowsLess : Clock → Clock → Type 0
KnowsLess p q = (v : ℕ) → knows p v ≤ knows q v

abbrev KnowsAfter : Mark → Mark → Type 0
KnowsAfter x y = KnowsLess x.after y.after

-- Some event of the clock is that event or comes after it.
record Traced (events : List Event) (w : World) (c a : ℕ) : Type 0 where
  pub at : ℕ
  pub here : Mark
  pub there : slice_get w.past at ≡ Some here
  pub one : clock_of here.event ≡ c
  pub after : (a ≡ at) ⊎ HappenedBefore events a at

record Caused (events : List Event) (w : World) : Type 0 where
  pub heard : Heard events w
  pub last_below : (c : ℕ) → (w.clocks c).last ≤ (w.clocks c).state.scalar
  pub known_below : (c v : ℕ) → knows (w.clocks c) v ≤ (w.clocks v).last
  pub marks_below : (i v : ℕ) (m : Mark) → slice_get w.past i ≡ Some m → knows m.after v ≤ (w.clocks v).last
  pub sends : (i clock durable : ℕ) (m : Mark) → slice_get w.past i ≡ Some m → m.event ≡ SendVector clock durable → durable ≡ m.after.last
  pub no_scalars : (i clock : ℕ) (m : Mark) → slice_get w.past i ≡ Some m → m.event ≡ SendScalar clock → ⊥
  pub ticks : (i stamp : ℕ) (m : Mark) → slice_get w.past i ≡ Some m → m.stamp ≡ Some stamp → stamp ≡ m.after.last
  pub some : (i stamp : ℕ) (m : Mark) → slice_get w.past i ≡ Some m → m.stamp ≡ Some stamp → 1 ≤ stamp
  pub chained : Chained KnowsLess KnowsAfter w
  pub causes : (i a v s : ℕ) (m : Mark) (x : Clock) → slice_get w.past i ≡ Some m → Ticked w.past a v s x → s ≤ knows m.after v → (a ≡ i) ⊎ HappenedBefore events a i
  pub traces : (c a v s : ℕ) (x : Clock) → Ticked w.past a v s x → s ≤ knows (w.clocks c) v → Traced events w c a

-- Happened-before in a longer list.
longer : (events : List Event) (event : Event) (a b : ℕ) → HappenedBefore events a b → HappenedBefore (events ++ event ∷ []) a b
longer events event a b (same_clock _ _ x y less at_a at_b one) = same_clock a b x y less (get_old events event a x at_a) (get_old events event b y at_b) one
longer events event a b (message _ _ clock x less at_a send at_b) = message a b clock x less (get_old events event a x at_a) send (get_old events event b (Receive clock a) at_b)
longer events event a b (through _ m _ p q) = through a m b (longer events event a m p) (longer events event m b q)

longer_or : (events : List Event) (event : Event) (a i : ℕ) → (a ≡ i) ⊎ HappenedBefore events a i → (a ≡ i) ⊎ HappenedBefore (events ++ event ∷ []) a i
longer_or events event a i h = elim h [ inl same ↦ inl same | inr before ↦ inr (longer events event a i before) ]

-- The new event comes after all of its clock, and after what it receives.
new_at : (events : List Event) (event : Event) (n : ℕ) → length events ≡ n → slice_get (events ++ event ∷ []) n ≡ Some event
new_at events event n is = subst (λ k. slice_get (events ++ event ∷ []) k ≡ Some event) is (get_new events event)

after_or : (events : List Event) (event : Event) (a i n : ℕ) → HappenedBefore (events ++ event ∷ []) i n → (a ≡ i) ⊎ HappenedBefore events a i → HappenedBefore (events ++ event ∷ []) a n
after_or events event a i n last h = elim h [
  | inl same ↦ subst (λ k. HappenedBefore (events ++ event ∷ []) k n) (sym same) last
  | inr before ↦ through a i n (longer events event a i before) last
]

same_clock_new : (events : List Event) (w : World) (event : Event) (i : ℕ) (m : Mark) → Heard events w → slice_get w.past i ≡ Some m → clock_of m.event ≡ clock_of event
    → HappenedBefore (events ++ event ∷ []) i (length w.past)
same_clock_new events w event i m h is one =
    same_clock i (length w.past) m.event event (place_below w.past i m is)
    (get_old events event i m.event (image_at (λ (z : Mark). z.event) w.past events i m h.same is))
    (new_at events event (length w.past) (length_of_same w.past events h.same)) one

message_new : (events : List Event) (w : World) (clock i : ℕ) (m : Mark) → Heard events w → slice_get w.past i ≡ Some m → IsSend m.event
    → HappenedBefore (events ++ Receive clock i ∷ []) i (length w.past)
message_new events w clock i m h is send =
    message i (length w.past) clock m.event (place_below w.past i m is)
    (get_old events (Receive clock i) i m.event (image_at (λ (z : Mark). z.event) w.past events i m h.same is)) send
    (new_at events (Receive clock i) (length w.past) (length_of_same w.past events h.same))

traced_new : (events : List Event) (w : World) (event : Event) (a : ℕ) → Heard events w → Traced events w (clock_of event) a → HappenedBefore (events ++ event ∷ []) a (length w.past)
traced_new events w event a h t = after_or events event a t.at (length w.past) (same_clock_new events w event t.at t.here h t.there t.one) t.after

-- What an event has to show.
record Shows (events : List Event) (w : World) (event : Event) (q : Clock) (stamp : Option ℕ) : Type 0 where
  pub below : q.last ≤ q.state.scalar
  pub stays : (w.clocks (clock_of event)).last ≤ q.last
  pub known : (v : ℕ) → (v ≡ clock_of event → ⊥) → knows q v ≤ (w.clocks v).last
  pub own : knows q (clock_of event) ≤ q.last
  pub goes : Goes KnowsLess KnowsAfter w event q stamp
  pub send : (clock durable : ℕ) → event ≡ SendVector clock durable → durable ≡ q.last
  pub no_scalar : (clock : ℕ) → event ≡ SendScalar clock → ⊥
  pub tick : (t : ℕ) → stamp ≡ Some t → t ≡ q.last
  pub rises : (t : ℕ) → stamp ≡ Some t → (w.clocks (clock_of event)).last < t
  pub causes : (a v s : ℕ) (x : Clock) → Ticked w.past a v s x → s ≤ knows q v → HappenedBefore (events ++ event ∷ []) a (length w.past)

abbrev mark : Event → Clock → Option ℕ → Mark
mark event q stamp = record { event = event; after = q; stamp = stamp }

-- No last tick falls.
last_stays : (w : World) (event : Event) (q : Clock) (v n : ℕ) → (w.clocks (clock_of event)).last ≤ q.last → n ≤ (w.clocks v).last → n ≤ (with_clock w.clocks (clock_of event) q v).last
last_stays w event q v n stays below =
    with_clock_at (λ z. n ≤ z.last) w.clocks (clock_of event) v q (λ same. omega (arith, stays, subst (λ k. n ≤ (w.clocks k).last) same below)) below

-- A tick of the longer list is one of the shorter, or the new event.
tick_old_or_new : (w : World) (event : Event) (q : Clock) (stamp : Option ℕ) (a v s : ℕ) (x : Clock) → Ticked (w.past ++ mark event q stamp ∷ []) a v s x
    → Ticked w.past a v s x ⊎ ((a ≡ length w.past) × (stamp ≡ Some s) × (clock_of event ≡ v))
tick_old_or_new w event q stamp a v s x is = elim (old_or_new w.past (mark event q stamp) a (record { event = Tick v; after = x; stamp = Some s }) is) [
  | inl old ↦ inl old.0
  | inr new ↦ inr (new.0, ap (λ (z : Mark). z.stamp) new.1, ap (λ (z : Mark). clock_of z.event) new.1)
]

traced_longer : (events : List Event) (w : World) (event : Event) (q : Clock) (stamp : Option ℕ) (c a : ℕ) → Traced events w c a → Traced (events ++ event ∷ []) (left w event q stamp) c a
traced_longer events w event q stamp c a t = record {
  at = t.at;
  here = t.here;
  there = get_old w.past (mark event q stamp) t.at t.here t.there;
  one = t.one;
  after = longer_or events event a t.at t.after;
}

left_caused : (events : List Event) (w : World) (event : Event) (q : Clock) (stamp : Option ℕ) → Caused events w → Heard (events ++ event ∷ []) (left w event q stamp)
    → Shows events w event q stamp → Caused (events ++ event ∷ []) (left w event q stamp)
left_caused events w event q stamp k heard g = record {
  heard = heard;
  last_below = λ c. with_clock_at (λ z. z.last ≤ z.state.scalar) w.clocks (clock_of event) c q (λ same. g.below) (k.last_below c);
  known_below = λ c v. with_clock_at (λ z. knows z v ≤ (with_clock w.clocks (clock_of event) q v).last) w.clocks (clock_of event) c q
      (λ same. new_known v)
      (last_stays w event q v (knows (w.clocks c) v) g.stays (k.known_below c v));
  marks_below = λ i v m is. elim (old_or_new w.past (mark event q stamp) i m is) [
    | inl old ↦ last_stays w event q v (knows m.after v) g.stays (k.marks_below i v m old.0)
    | inr new ↦ subst (λ (z : Mark). knows z.after v ≤ (with_clock w.clocks (clock_of event) q v).last) new.1 (new_known v)
  ];
  sends = λ i clock durable m is sent. elim (old_or_new w.past (mark event q stamp) i m is) [
    | inl old ↦ k.sends i clock durable m old.0 sent
    | inr new ↦ g.send clock durable (ap (λ (z : Mark). z.event) new.1 ∙ sent) ∙ ap (λ (z : Mark). z.after.last) new.1
  ];
  no_scalars = λ i clock m is sent. elim (old_or_new w.past (mark event q stamp) i m is) [
    | inl old ↦ k.no_scalars i clock m old.0 sent
    | inr new ↦ g.no_scalar clock (ap (λ (z : Mark). z.event) new.1 ∙ sent)
  ];
  ticks = λ i t m is ticks. elim (old_or_new w.past (mark event q stamp) i m is) [
    | inl old ↦ k.ticks i t m old.0 ticks
    | inr new ↦ g.tick t (ap (λ (z : Mark). z.stamp) new.1 ∙ ticks) ∙ ap (λ (z : Mark). z.after.last) new.1
  ];
  some = λ i t m is ticks. elim (old_or_new w.past (mark event q stamp) i m is) [
    | inl old ↦ k.some i t m old.0 ticks
    | inr new ↦ omega (arith, g.rises t (ap (λ (z : Mark). z.stamp) new.1 ∙ ticks))
  ];
  chained = chains_go_on KnowsLess KnowsAfter (λ p v. omega arith) (λ p o r f h v. omega (arith, f v, h v)) w event q stamp k.chained g.goes;
  causes = λ i a v s m x is ticks below. elim (old_or_new w.past (mark event q stamp) i m is) [
    | inl old ↦ elim (tick_old_or_new w event q stamp a v s x ticks) [
      | inl before ↦ longer_or events event a i (k.causes i a v s m x old.0 before below)
      | inr now ↦ absurd (too_new v s now.1 now.2 (knows m.after v) below (k.marks_below i v m old.0))
    ]
    | inr new ↦ subst (λ z. (a ≡ z) ⊎ HappenedBefore (events ++ event ∷ []) a z) (sym new.0)
        (new_causes a v s x ticks (subst (λ (z : Mark). s ≤ knows z.after v) (sym new.1) below))
  ];
  traces = λ c a v s x ticks. with_clock_at (λ z. s ≤ knows z v → Traced (events ++ event ∷ []) (left w event q stamp) c a) w.clocks (clock_of event) c q
      (λ same below. record {
        at = length w.past;
        here = mark event q stamp;
        there = get_new w.past (mark event q stamp);
        one = sym same;
        after = new_causes a v s x ticks below;
      })
      (λ below. elim (tick_old_or_new w event q stamp a v s x ticks) [
        | inl before ↦ traced_longer events w event q stamp c a (k.traces c a v s x before below)
        | inr now ↦ absurd (too_new v s now.1 now.2 (knows (w.clocks c) v) below (k.known_below c v))
      ]);
}
  where
    new_known : (v : ℕ) → knows q v ≤ (with_clock w.clocks (clock_of event) q v).last
    new_known v = by_test (nat_eq v (clock_of event)) refl
      where
        by_test : (b : Bool) → nat_eq v (clock_of event) ≡ b → knows q v ≤ (cond b q (w.clocks v)).last
        by_test true h = let same : v ≡ clock_of event = grind (arith, nat_tests) in subst (λ z. knows q z ≤ q.last) (sym same) g.own
        by_test false h = g.known v (λ same. absurd (grind (arith, nat_tests)))

    too_new : (v s : ℕ) → stamp ≡ Some s → clock_of event ≡ v → (n : ℕ) → s ≤ n → n ≤ (w.clocks v).last → ⊥
    too_new v s is same n below most = omega (arith, g.rises s is, below, subst (λ z. n ≤ (w.clocks z).last) (sym same) most)

    new_causes : (a v s : ℕ) (x : Clock) → Ticked (w.past ++ mark event q stamp ∷ []) a v s x → s ≤ knows q v → (a ≡ length w.past) ⊎ HappenedBefore (events ++ event ∷ []) a (length w.past)
    new_causes a v s x ticks below = elim (tick_old_or_new w event q stamp a v s x ticks) [
      | inl before ↦ inr (g.causes a v s x before below)
      | inr now ↦ inl now.0
    ]

-- What a clock knows of its own writer, and of the others.
own_number : (h n v w : ℕ) → h ≡ 0 → v ≡ w → max h (cond (nat_eq v w) n 0) ≡ n
own_number h n v w none same = grind (arith, nat_tests)

other_number : (h n v w : ℕ) → (v ≡ w → ⊥) → max h (cond (nat_eq v w) n 0) ≡ h
other_number h n v w other = grind (arith, nat_tests)

knows_own : (c : ℕ) (p : Clock) → Plain c p → knows p c ≡ p.last
knows_own c p plain = own_number (stamp_of p.state.heard c) p.last c p.state.writer plain.own (sym plain.one)

-- A vector that is sent with the last tick says what its clock knows.
sent_knows : (c : ℕ) (p : Clock) (durable v : ℕ) → Plain c p → 1 ≤ c → durable ≡ p.last → stamp_of (sending p.state durable) v ≡ knows p v
sent_knows c p durable v plain one is =
    sending_stamp p.state durable v plain.ascends (subst (λ n. 1 ≤ n) (sym plain.one) one) ∙ ap (λ n. max (stamp_of p.state.heard v) (cond (nat_eq v p.state.writer) n 0)) is

-- An event that leaves its clock as it is.
quiet_shows : (events : List Event) (w : World) (event : Event) → Caused events w
    → ((clock durable : ℕ) → event ≡ SendVector clock durable → durable ≡ (w.clocks (clock_of event)).last)
    → ((clock : ℕ) → event ≡ SendScalar clock → ⊥)
    → ((a clock : ℕ) (x : Mark) → event ≡ Receive clock a → slice_get w.past a ≡ Some x → IsSend x.event → ⊥)
    → Shows events w event (w.clocks (clock_of event)) None
quiet_shows events w event k send no_scalar deaf = record {
  below = k.last_below (clock_of event);
  stays = omega arith;
  known = λ v other. k.known_below (clock_of event) v;
  own = k.known_below (clock_of event) (clock_of event);
  goes = record {
    grows = λ v. omega arith;
    next = λ x less. less;
    hears = λ a clock x is there sent. absurd (deaf a clock x is there sent);
  };
  send = send;
  no_scalar = no_scalar;
  tick = λ t is. absurd (cc);
  rises = λ t is. absurd (cc);
  causes = λ a v s x ticks below. traced_new events w event a k.heard (k.traces (clock_of event) a v s x ticks below);
}

-- A tick.
more_number : (h m n v w : ℕ) → m ≤ n → max h (cond (nat_eq v w) m 0) ≤ max h (cond (nat_eq v w) n 0)
more_number h m n v w less = grind (arith, nat_tests)

same_number : (h m n v w : ℕ) → (v ≡ w → ⊥) → max h (cond (nat_eq v w) n 0) ≡ max h (cond (nat_eq v w) m 0)
same_number h m n v w other = grind (arith, nat_tests)

same_or_not : (v c : ℕ) → (v ≡ c) ⊎ (v ≡ c → ⊥)
same_or_not v c = by_test (nat_eq v c) refl
  where
    by_test : (b : Bool) → nat_eq v c ≡ b → (v ≡ c) ⊎ (v ≡ c → ⊥)
    by_test true h = inl (grind (arith, nat_tests))
    by_test false h = inr (λ same. absurd (grind (arith, nat_tests)))

tick_shows : (events : List Event) (w : World) (c : ℕ) → Caused events w
    → Shows events w (Tick c) (record { state = ticked (w.clocks c).state; last = (ticked (w.clocks c).state).scalar }) (Some (ticked (w.clocks c).state).scalar)
tick_shows events w c k = record {
  below = omega arith;
  stays = omega (arith, k.last_below c);
  known = λ v other. subst (λ n. n ≤ (w.clocks v).last) (sym (elsewhere v other)) (k.known_below c v);
  own = omega (arith, own_number (stamp_of (w.clocks c).state.heard c) ((w.clocks c).state.scalar + 1) c (w.clocks c).state.writer (k.heard.plain c).own (sym (k.heard.plain c).one));
  goes = record {
    grows = rises;
    next = λ x less v. omega (arith, less v, rises v);
    hears = λ a clock x is there sent. absurd (cc);
  };
  send = λ clock durable is. absurd (cc);
  no_scalar = λ clock is. cc;
  tick = λ t is. cc;
  rises = λ t is. let e : (w.clocks c).state.scalar + 1 ≡ t = cc in omega (arith, k.last_below c, e);
  causes = λ a v s x ticks below. elim (same_or_not v c) [
    | inl same ↦ same_clock_new events w (Tick c) a (record { event = Tick v; after = x; stamp = Some s }) k.heard ticks same
    | inr other ↦ traced_new events w (Tick c) a k.heard (k.traces c a v s x ticks (subst (λ n. s ≤ n) (elsewhere v other) below))
  ];
}
  where
    rises : (v : ℕ) → knows (w.clocks c) v ≤ max (stamp_of (w.clocks c).state.heard v) (cond (nat_eq v (w.clocks c).state.writer) ((w.clocks c).state.scalar + 1) 0)
    rises v = more_number (stamp_of (w.clocks c).state.heard v) (w.clocks c).last ((w.clocks c).state.scalar + 1) v (w.clocks c).state.writer (omega (arith, k.last_below c))

    elsewhere : (v : ℕ) → (v ≡ c → ⊥) → max (stamp_of (w.clocks c).state.heard v) (cond (nat_eq v (w.clocks c).state.writer) ((w.clocks c).state.scalar + 1) 0) ≡ knows (w.clocks c) v
    elsewhere v other = same_number (stamp_of (w.clocks c).state.heard v) (w.clocks c).last ((w.clocks c).state.scalar + 1) v (w.clocks c).state.writer (λ same. other (same ∙ (k.heard.plain c).one))

-- A receipt of a vector.
receipt_own : (h s n v w : ℕ) → h ≡ 0 → v ≡ w → max (max h (cond (nat_eq v w) 0 s)) (cond (nat_eq v w) n 0) ≡ n
receipt_own h s n v w none same = grind (arith, nat_tests)

receipt_other : (h s n v w : ℕ) → (v ≡ w → ⊥) → max (max h (cond (nat_eq v w) 0 s)) (cond (nat_eq v w) n 0) ≡ max h s
receipt_other h s n v w other = grind (arith, nat_tests)

within_one : (s m n : ℕ) → s ≤ max m n → (s ≤ m) ⊎ (s ≤ n)
within_one s m n h = grind arith

abbrev heard_from : Clock → Mark → ℕ → ℕ → Clock
heard_from p m sender durable = with_state p (hearing p.state m.after.state (SendVector sender durable))

vector_shows : (events : List Event) (w : World) (c send sender durable : ℕ) (m : Mark) → Caused events w → 1 ≤ c → slice_get w.past send ≡ Some m → m.event ≡ SendVector sender durable
    → Shows events w (Receive c send) (with_state (w.clocks c) (hearing (w.clocks c).state m.after.state (SendVector sender durable))) None
vector_shows events w c send sender durable m k one is sent = record {
  below = omega (arith, k.last_below c);
  stays = omega arith;
  known = λ v other. subst (λ n. n ≤ (w.clocks v).last) (sym (elsewhere v other)) (both v);
  own = subst (λ n. n ≤ (w.clocks c).last) (sym at_own) (omega arith);
  goes = record {
    grows = grows;
    next = λ x less v. omega (arith, less v, grows v);
    hears = λ a clock x is_a there send_x v. let place : send ≡ a = cc in let same : m ≡ x = the_same a x place there in subst (λ (z : Mark). knows z.after v ≤ knows (heard_from (w.clocks c) m sender durable) v) same (hears v);
  };
  send = λ clock other is. absurd (cc);
  no_scalar = λ clock is. cc;
  tick = λ t is. absurd (cc);
  rises = λ t is. absurd (cc);
  causes = λ a v s x ticks below. elim (same_or_not v c) [
    | inl same ↦ traced_new events w (Receive c send) a k.heard (k.traces c a v s x ticks (own_traces v s same below))
    | inr other ↦ elim (within_one s (stamp_of (w.clocks c).state.heard v) (knows m.after v) (subst (λ n. s ≤ n) (elsewhere v other) below)) [
      | inl heard ↦ traced_new events w (Receive c send) a k.heard (k.traces c a v s x ticks (omega (arith, heard)))
      | inr of_sent ↦ after_or events (Receive c send) a send (length w.past) (message_new events w c send m k.heard is (subst IsSend (sym sent) tt)) (k.causes send a v s m x is ticks of_sent)
    ]
  ];
}
  where
    value : (v : ℕ) → knows (heard_from (w.clocks c) m sender durable) v ≡ max (max (stamp_of (w.clocks c).state.heard v) (cond (nat_eq v (w.clocks c).state.writer) 0 (knows m.after v))) (cond (nat_eq v (w.clocks c).state.writer) (w.clocks c).last 0)
    value v =
        let plain = k.heard.marks_plain send m is in
        let from_one = k.heard.marks_from_one send m is in
        let sending_is : IsVector (sending m.after.state durable) = sending_vector m.after.state durable plain.ascends (subst (λ n. 1 ≤ n) (sym plain.one) from_one) in
        ap (λ n. max n (cond (nat_eq v (w.clocks c).state.writer) (w.clocks c).last 0))
        (heard_stamp (heard_scalar (w.clocks c).state m.after.state.scalar) (sending m.after.state durable) v (k.heard.plain c).ascends sending_is
        ∙ ap (λ n. max (stamp_of (w.clocks c).state.heard v) (cond (nat_eq v (w.clocks c).state.writer) 0 n))
        (sent_knows (clock_of m.event) m.after durable v plain from_one (k.sends send sender durable m is sent)))

    elsewhere : (v : ℕ) → (v ≡ c → ⊥) → knows (heard_from (w.clocks c) m sender durable) v ≡ max (stamp_of (w.clocks c).state.heard v) (knows m.after v)
    elsewhere v other = value v ∙ receipt_other (stamp_of (w.clocks c).state.heard v) (knows m.after v) (w.clocks c).last v (w.clocks c).state.writer (λ same. other (same ∙ (k.heard.plain c).one))

    at_own : knows (heard_from (w.clocks c) m sender durable) c ≡ (w.clocks c).last
    at_own = value c ∙ receipt_own (stamp_of (w.clocks c).state.heard c) (knows m.after c) (w.clocks c).last c (w.clocks c).state.writer (k.heard.plain c).own (sym (k.heard.plain c).one)

    both : (v : ℕ) → max (stamp_of (w.clocks c).state.heard v) (knows m.after v) ≤ (w.clocks v).last
    both v = omega (arith, k.known_below c v, k.marks_below send v m is)

    grows : (v : ℕ) → knows (w.clocks c) v ≤ knows (heard_from (w.clocks c) m sender durable) v
    grows v = subst (λ n. knows (w.clocks c) v ≤ n) (sym (value v)) (omega arith)

    hears : (v : ℕ) → knows m.after v ≤ knows (heard_from (w.clocks c) m sender durable) v
    hears v = elim (same_or_not v c) [
      | inl same ↦ subst (λ z. knows m.after z ≤ knows (heard_from (w.clocks c) m sender durable) z) (sym same) (subst (λ n. knows m.after c ≤ n) (sym at_own) (k.marks_below send c m is))
      | inr other ↦ subst (λ n. knows m.after v ≤ n) (sym (elsewhere v other)) (omega arith)
    ]

    the_same : (a : ℕ) (x : Mark) → send ≡ a → slice_get w.past a ≡ Some x → m ≡ x
    the_same a x place there = let e : slice_get w.past send ≡ Some x = ap (slice_get w.past) place ∙ there in cc

    own_traces : (v s : ℕ) → v ≡ c → s ≤ knows (heard_from (w.clocks c) m sender durable) v → s ≤ knows (w.clocks c) v
    own_traces v s same below =
        subst (λ z. s ≤ knows (w.clocks c) z) (sym same)
        (subst (λ n. s ≤ n) (at_own ∙ sym (knows_own c (w.clocks c) (k.heard.plain c))) (subst (λ z. s ≤ knows (heard_from (w.clocks c) m sender durable) z) same below))

mark_shows : (events : List Event) (w : World) (c send : ℕ) (m : Mark) (sent : Event) → Caused events w → 1 ≤ c → slice_get w.past send ≡ Some m → m.event ≡ sent
    → Shows events w (Receive c send) (with_state (w.clocks c) (hearing (w.clocks c).state m.after.state sent)) None
mark_shows events w c send m (SendVector sender durable) k one is at = vector_shows events w c send sender durable m k one is at
mark_shows events w c send m (SendScalar sender) k one is at = absurd (k.no_scalars send sender m is at)
mark_shows events w c send m (Tick sender) k one is at =
    quiet_shows events w (Receive c send) k (λ clock durable e. absurd (cc)) (λ clock e. cc)
    (λ a clock x e there sent. let place : send ≡ a = cc in let f : slice_get w.past send ≡ Some x = ap (slice_get w.past) place ∙ there in let same : x.event ≡ Tick sender = cc in subst IsSend same sent)
mark_shows events w c send m (Receive sender place) k one is at =
    quiet_shows events w (Receive c send) k (λ clock durable e. absurd (cc)) (λ clock e. cc)
    (λ a clock x e there sent. let place_is : send ≡ a = cc in let f : slice_get w.past send ≡ Some x = ap (slice_get w.past) place_is ∙ there in let same : x.event ≡ Receive sender place = cc in subst IsSend same sent)

receipt_shows : (events : List Event) (w : World) (c send : ℕ) (m : Option Mark) → Caused events w → 1 ≤ c → slice_get w.past send ≡ m
    → Shows events w (Receive c send) (with_state (w.clocks c) (received (w.clocks c).state m)) None
receipt_shows events w c send None k one is =
    quiet_shows events w (Receive c send) k (λ clock durable e. absurd (cc)) (λ clock e. cc)
    (λ a clock x e there sent. let place : send ≡ a = cc in let f : slice_get w.past send ≡ Some x = ap (slice_get w.past) place ∙ there in cc)
receipt_shows events w c send (Some m) k one is = mark_shows events w c send m m.event k one is refl

-- The run.
tick_caused : (events : List Event) (w : World) (c : ℕ) (test : Bool) → Caused events w → Heard (events ++ Tick c ∷ []) (tick_done w c test) → Caused (events ++ Tick c ∷ []) (tick_done w c test)
tick_caused events w c true k heard = left_caused events w (Tick c) _ _ k heard (tick_shows events w c k)
tick_caused events w c false k heard =
    left_caused events w (Tick c) _ _ k heard (quiet_shows events w (Tick c) k (λ clock durable e. absurd (cc)) (λ clock e. cc) (λ a clock x e there sent. cc))

happens_caused : (events : List Event) (w : World) (event : Event) → Caused events w → 1 ≤ clock_of event → Prompt w event → Caused (events ++ event ∷ []) (happens w event)
happens_caused events w (Tick c) k one prompt = tick_caused events w c (can_tick (w.clocks c).state) k (happens_heard events w (Tick c) k.heard one)
happens_caused events w (SendScalar c) k one prompt = absurd prompt
happens_caused events w (SendVector c durable) k one prompt =
    left_caused events w (SendVector c durable) _ _ k (happens_heard events w (SendVector c durable) k.heard one)
    (quiet_shows events w (SendVector c durable) k (λ clock d e. let same : durable ≡ d = cc in sym same ∙ prompt) (λ clock e. cc) (λ a clock x e there sent. cc))
happens_caused events w (Receive c send) k one prompt =
    left_caused events w (Receive c send) _ _ k (happens_heard events w (Receive c send) k.heard one) (receipt_shows events w c send (slice_get w.past send) k one refl)

run_caused : (before : List Event) (w : World) (events : List Event) → NameWriters events → IsPrompt w events → Caused before w → Caused (before ++ events) (run w events)
run_caused before w [] from_one prompt k = subst (λ z. Caused z w) (sym (append-nil before)) k
run_caused before w (event ∷ events) from_one prompt k =
    subst (λ z. Caused z (run (happens w event) events)) (append_assoc before (event ∷ []) events)
    (run_caused (before ++ event ∷ []) (happens w event) events from_one.1 prompt.1 (happens_caused before w event k from_one.0 prompt.0))

start_number : (c v : ℕ) → max 0 (cond (nat_eq v c) 0 0) ≡ 0
start_number c v = grind (arith, nat_tests)

start_caused : (start : ℕ → ℕ) → Caused [] (begun start)
start_caused start = record {
  heard = start_heard start;
  last_below = λ c. omega arith;
  known_below = λ c v. omega (arith, start_number c v);
  marks_below = λ i v m h. absurd (cc);
  sends = λ i clock durable m h is. absurd (cc);
  no_scalars = λ i clock m h is. cc;
  ticks = λ i stamp m h is. absurd (cc);
  some = λ i stamp m h is. absurd (cc);
  chained = chained_at_start KnowsLess KnowsAfter start;
  causes = λ i a v s m x h ticks below. absurd (cc);
  traces = λ c a v s x ticks below. absurd (cc);
}

pub covers_its_causes : (start : ℕ → ℕ) (events : List Event) → NameWriters events → IsPrompt (begun start) events → CoversItsCauses start events
covers_its_causes start events from_one prompt a b clock other stamp later x y is_x is_y = (
  λ covered. k.causes b a clock stamp (mark (Tick other) y (Some later)) x is_y is_x (subst (λ n. stamp ≤ n) (says clock) covered),
  λ caused. subst (λ n. stamp ≤ n) (sym (says clock)) (elim caused [
    | inl same ↦ let f : slice_get w.past b ≡ Some (mark (Tick clock) x (Some stamp)) = ap (slice_get w.past) (sym same) ∙ is_x in let both : mark (Tick clock) x (Some stamp) ≡ mark (Tick other) y (Some later) = cc in let one : x ≡ y = ap (λ (z : Mark). z.after) both in subst (λ (z : Clock). stamp ≤ knows z clock) one own
    | inr before ↦ omega (arith, own, goes_along KnowsLess KnowsAfter (λ l m n f g v. omega (arith, f v, g v)) w events k.heard.same k.chained a b before (mark (Tick clock) x (Some stamp)) (mark (Tick other) y (Some later)) is_x is_y clock)
  ]),
)
  where
    w : World
    w = run (begun start) events

    k : Caused events (run (begun start) events)
    k = run_caused [] (begun start) events from_one prompt (start_caused start)

    says : (v : ℕ) → stamp_of (sending y.state later) v ≡ knows y v
    says v = sent_knows other y later v (k.heard.marks_plain b (mark (Tick other) y (Some later)) is_y) (k.heard.marks_from_one b (mark (Tick other) y (Some later)) is_y) (k.ticks b later (mark (Tick other) y (Some later)) is_y refl)

    own : stamp ≤ knows x clock
    own = omega (arith, k.ticks a stamp (mark (Tick clock) x (Some stamp)) is_x refl, knows_own clock x (k.heard.marks_plain a (mark (Tick clock) x (Some stamp)) is_x))
