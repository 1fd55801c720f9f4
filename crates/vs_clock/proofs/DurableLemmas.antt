-- Each entry of each vector was named as durable by its writer.
use Rattle.std.proofs.Common.{◌≡◌, ◌≤◌, ◌⊎◌, inl, inr, ℕ, suc, Bool, true, false, cond, max, nat_eq, List, [], ◌∷◌, ◌++◌, Option, Some, None, map, length, refl, sym, ◌∙◌, ap, subst, arith, append_assoc}
use Rattle.std.proofs.lemmas.List.{append-nil, map_push}
use Rattle.std.proofs.lemmas.Bool.Decides.{nat_tests}
use Rattle.std.specs.Prelude.{slice_get}
use Rattle.tm_data.specs.Vectors.{IsVector, stamp_of}
use Rattle.vs_clock.specs.State.{State, can_tick, sending}
use Rattle.vs_clock.specs.Run.{Event, Tick, SendScalar, SendVector, Receive, clock_of, Clock, Mark, World, begun, left, with_state, tick_done, hearing, received, happens, run}
use Rattle.vs_clock.specs.Laws.{NameWriters, IsNamed, EntriesAreDurable}
use Rattle.vs_clock.proofs.PlaceLemmas.{get_old, old_or_new, place_below, image_at}
use Rattle.vs_clock.proofs.ChainLemmas.{with_clock_at}
use Rattle.vs_clock.proofs.StateLemmas.{sending_vector, sending_stamp, heard_ascends, heard_stamp}

-- A writer's clock and its vector.
pub record Plain (writer : ℕ) (p : Clock) : Type 0 where
  pub one : p.state.writer ≡ writer
  pub ascends : IsVector p.state.heard
  pub own : stamp_of p.state.heard writer ≡ 0

pub record Named (events : List Event) (writer stamp : ℕ) : Type 0 where
  pub at : ℕ
  pub there : slice_get events at ≡ Some (SendVector writer stamp)

-- Each stamp that the clock has heard was named.
abbrev pub HeardNamed : List Event → Clock → Type 0
HeardNamed events p = (v : ℕ) → 1 ≤ stamp_of p.state.heard v → Named events v (stamp_of p.state.heard v)

pub record Heard (events : List Event) (w : World) : Type 0 where
  pub same : map (λ (z : Mark). z.event) w.past ≡ events
  pub plain : (c : ℕ) → Plain c (w.clocks c)
  pub named : (c : ℕ) → HeardNamed events (w.clocks c)
  pub marks_from_one : (i : ℕ) (m : Mark) → slice_get w.past i ≡ Some m → 1 ≤ clock_of m.event
  pub marks_plain : (i : ℕ) (m : Mark) → slice_get w.past i ≡ Some m → Plain (clock_of m.event) m.after
  pub marks_named : (i v : ℕ) (m : Mark) → slice_get w.past i ≡ Some m → 1 ≤ stamp_of m.after.state.heard v → IsNamed events i v (stamp_of m.after.state.heard v)

named_longer : (events : List Event) (event : Event) (v s : ℕ) → Named events v s → Named (events ++ event ∷ []) v s
named_longer events event v s n = record { at = n.at; there = get_old events event n.at _ n.there }

is_named_longer : (events : List Event) (event : Event) (i v s : ℕ) → IsNamed events i v s → IsNamed (events ++ event ∷ []) i v s
is_named_longer events event i v s n = record { at = n.at; before = n.before; named = get_old events event n.at _ n.named }

named_by : (events : List Event) (event : Event) (n v s : ℕ) → length events ≡ n → Named events v s → IsNamed (events ++ event ∷ []) n v s
named_by events event n v s is named = record {
  at = named.at;
  before = omega (arith, place_below events named.at _ named.there, is);
  named = get_old events event named.at _ named.there;
}

pub length_of_same : (past : List Mark) (events : List Event) → map (λ (z : Mark). z.event) past ≡ events → length events ≡ length past
length_of_same past events same = ap length (sym same) ∙ length_map past
  where
    length_map : (past : List Mark) → length (map (λ (z : Mark). z.event) past) ≡ length past
    length_map [] = refl
    length_map (m ∷ ms) = ap suc (length_map ms)

pub left_heard : (events : List Event) (w : World) (event : Event) (after : Clock) (stamp : Option ℕ) → Heard events w
    → 1 ≤ clock_of event → Plain (clock_of event) after → HeardNamed events after → Heard (events ++ event ∷ []) (left w event after stamp)
left_heard events w event after stamp h one plain named = record {
  same = map_push (λ (z : Mark). z.event) w.past (record { event = event; after = after; stamp = stamp }) ∙ ap (λ z. z ++ event ∷ []) h.same;
  plain = λ c. with_clock_at (Plain c) w.clocks (clock_of event) c after (λ same. subst (λ v. Plain v after) (sym same) plain) (h.plain c);
  named = λ c. with_clock_at (HeardNamed (events ++ event ∷ [])) w.clocks (clock_of event) c after
      (λ same v some. named_longer events event v _ (named v some)) (λ v some. named_longer events event v _ (h.named c v some));
  marks_from_one = λ i m k. elim (old_or_new w.past (record { event = event; after = after; stamp = stamp }) i m k) [
    | inl old ↦ h.marks_from_one i m old.0
    | inr new ↦ subst (λ (z : Mark). 1 ≤ clock_of z.event) new.1 one
  ];
  marks_plain = λ i m k. elim (old_or_new w.past (record { event = event; after = after; stamp = stamp }) i m k) [
    | inl old ↦ h.marks_plain i m old.0
    | inr new ↦ subst (λ (z : Mark). Plain (clock_of z.event) z.after) new.1 plain
  ];
  marks_named = λ i v m k. elim (old_or_new w.past (record { event = event; after = after; stamp = stamp }) i m k) [
    | inl old ↦ λ some. is_named_longer events event i v _ (h.marks_named i v m old.0 some)
    | inr new ↦ subst (λ (z : Mark). 1 ≤ stamp_of z.after.state.heard v → IsNamed (events ++ event ∷ []) i v (stamp_of z.after.state.heard v)) new.1
        (λ some. named_by events event i v _ (length_of_same w.past events h.same ∙ sym new.0) (named v some))
  ];
}

-- Each entry of a vector that was sent was named.
one_of_two : (m n : ℕ) → (max m n ≡ m) ⊎ (max m n ≡ n)
one_of_two m n = grind arith

own_or_heard : (h d v w : ℕ) → (v ≡ w → h ≡ 0) → ((max h (cond (nat_eq v w) d 0) ≡ d) × (v ≡ w)) ⊎ (max h (cond (nat_eq v w) d 0) ≡ h)
own_or_heard h d v w none = grind (arith, nat_tests)

pub sent_named : (events : List Event) (w : World) (place clock durable v : ℕ) (m : Mark) → Heard events w → slice_get w.past place ≡ Some m → m.event ≡ SendVector clock durable
    → 1 ≤ stamp_of (sending m.after.state durable) v → IsNamed events place v (stamp_of (sending m.after.state durable) v)
sent_named events w place clock durable v m h k is some =
    let plain = h.marks_plain place m k in
    let from_one : 1 ≤ m.after.state.writer = subst (λ n. 1 ≤ n) (sym plain.one) (h.marks_from_one place m k) in
    let value = sending_stamp m.after.state durable v plain.ascends from_one in
    elim (own_or_heard (stamp_of m.after.state.heard v) durable v m.after.state.writer (λ same. ap (stamp_of m.after.state.heard) (same ∙ plain.one) ∙ plain.own)) [
      | inl own ↦ subst (λ n. IsNamed events place v n) (sym (value ∙ own.0)) (record {
        at = place;
        before = omega arith;
        named = image_at (λ (z : Mark). z.event) w.past events place m h.same k ∙ ap Some (is ∙ ap (λ n. SendVector n durable) (sym (own.1 ∙ plain.one ∙ ap clock_of is)));
      })
      | inr heard ↦ subst (λ n. IsNamed events place v n) (sym (value ∙ heard)) (h.marks_named place v m k (subst (λ n. 1 ≤ n) (value ∙ heard) some))
    ]

to_named : (events : List Event) (i v s : ℕ) → IsNamed events i v s → Named events v s
to_named events i v s n = record { at = n.at; there = n.named }

-- What a receipt leaves.
hearing_plain : (c : ℕ) (p : Clock) (sender : State) (event : Event) → Plain c p → 1 ≤ sender.writer → IsVector sender.heard → Plain c (with_state p (hearing p.state sender event))
hearing_plain c p sender (Tick clock) plain one v = plain
hearing_plain c p sender (Receive clock send) plain one v = plain
hearing_plain c p sender (SendScalar clock) plain one v = record { one = plain.one; ascends = plain.ascends; own = plain.own }
hearing_plain c p sender (SendVector clock durable) plain one v = record {
  one = plain.one;
  ascends = heard_ascends p.state (sending sender durable) plain.ascends (sending_vector sender durable v one);
  own = heard_stamp p.state (sending sender durable) c plain.ascends (sending_vector sender durable v one) ∙ none (stamp_of p.state.heard c) (stamp_of (sending sender durable) c) c p.state.writer plain.own plain.one;
}
  where
    none : (h s c w : ℕ) → h ≡ 0 → w ≡ c → max h (cond (nat_eq c w) 0 s) ≡ 0
    none h s c w is same = grind (arith, nat_tests)

heard_or_sent : (h s v w : ℕ) → (max h (cond (nat_eq v w) 0 s) ≡ h) ⊎ (max h (cond (nat_eq v w) 0 s) ≡ s)
heard_or_sent h s v w = grind (arith, nat_tests)

hearing_named : (events : List Event) (c : ℕ) (p : Clock) (sender : State) (event : Event) → Plain c p → HeardNamed events p → 1 ≤ sender.writer → IsVector sender.heard
    → ((clock durable v : ℕ) → event ≡ SendVector clock durable → 1 ≤ stamp_of (sending sender durable) v → Named events v (stamp_of (sending sender durable) v))
    → HeardNamed events (with_state p (hearing p.state sender event))
hearing_named events c p sender (Tick clock) plain named one v sent = named
hearing_named events c p sender (Receive clock send) plain named one v sent = named
hearing_named events c p sender (SendScalar clock) plain named one v sent = named
hearing_named events c p sender (SendVector clock durable) plain named one v sent = λ u some.
    let value = heard_stamp p.state (sending sender durable) u plain.ascends (sending_vector sender durable v one) in
    elim (heard_or_sent (stamp_of p.state.heard u) (stamp_of (sending sender durable) u) u p.state.writer) [
      | inl heard ↦ subst (λ n. Named events u n) (sym (value ∙ heard)) (named u (subst (λ n. 1 ≤ n) (value ∙ heard) some))
      | inr of_sent ↦ subst (λ n. Named events u n) (sym (value ∙ of_sent)) (sent clock durable u refl (subst (λ n. 1 ≤ n) (value ∙ of_sent) some))
    ]

receipt_heard : (events : List Event) (w : World) (clock send : ℕ) (m : Option Mark) → slice_get w.past send ≡ m → Heard events w → 1 ≤ clock
    → Heard (events ++ Receive clock send ∷ []) (left w (Receive clock send) (with_state (w.clocks clock) (received (w.clocks clock).state m)) None)
receipt_heard events w clock send None is h one = left_heard events w (Receive clock send) _ _ h one (h.plain clock) (h.named clock)
receipt_heard events w clock send (Some m) is h one =
    let plain = h.marks_plain send m is in
    let from_one : 1 ≤ m.after.state.writer = subst (λ n. 1 ≤ n) (sym plain.one) (h.marks_from_one send m is) in
    left_heard events w (Receive clock send) _ _ h one
    (hearing_plain clock (w.clocks clock) m.after.state m.event (h.plain clock) from_one plain.ascends)
    (hearing_named events clock (w.clocks clock) m.after.state m.event (h.plain clock) (h.named clock) from_one plain.ascends
    (λ other durable v sent some. to_named events send v _ (sent_named events w send other durable v m h is sent some)))

tick_heard : (events : List Event) (w : World) (clock : ℕ) (test : Bool) → Heard events w → 1 ≤ clock → Heard (events ++ Tick clock ∷ []) (tick_done w clock test)
tick_heard events w clock true h one =
    left_heard events w (Tick clock) _ _ h one (record { one = (h.plain clock).one; ascends = (h.plain clock).ascends; own = (h.plain clock).own }) (h.named clock)
tick_heard events w clock false h one = left_heard events w (Tick clock) _ _ h one (h.plain clock) (h.named clock)

pub happens_heard : (events : List Event) (w : World) (event : Event) → Heard events w → 1 ≤ clock_of event → Heard (events ++ event ∷ []) (happens w event)
happens_heard events w (Tick clock) h one = tick_heard events w clock (can_tick (w.clocks clock).state) h one
happens_heard events w (SendScalar clock) h one = left_heard events w (SendScalar clock) _ _ h one (h.plain clock) (h.named clock)
happens_heard events w (SendVector clock durable) h one = left_heard events w (SendVector clock durable) _ _ h one (h.plain clock) (h.named clock)
happens_heard events w (Receive clock send) h one = receipt_heard events w clock send (slice_get w.past send) refl h one

run_heard : (before : List Event) (w : World) (events : List Event) → NameWriters events → Heard before w → Heard (before ++ events) (run w events)
run_heard before w [] from_one h = subst (λ z. Heard z w) (sym (append-nil before)) h
run_heard before w (event ∷ events) from_one h =
    subst (λ z. Heard z (run (happens w event) events)) (append_assoc before (event ∷ []) events)
    (run_heard (before ++ event ∷ []) (happens w event) events from_one.1 (happens_heard before w event h from_one.0))

pub start_heard : (start : ℕ → ℕ) → Heard [] (begun start)
start_heard start = record {
  same = refl;
  plain = λ c. record { one = refl; ascends = tt; own = refl };
  named = λ c v some. absurd (omega (arith, some));
  marks_from_one = λ i m h. absurd (cc);
  marks_plain = λ i m h. absurd (cc);
  marks_named = λ i v m h some. absurd (cc);
}

pub entries_are_durable : (start : ℕ → ℕ) (events : List Event) → NameWriters events → EntriesAreDurable start events
entries_are_durable start events from_one =
    let h = run_heard [] (begun start) events from_one (start_heard start) in
    record {
      heard = λ place writer m is some. h.marks_named place writer m is some;
      sent = λ place clock durable writer m is sent some. sent_named events (run (begun start) events) place clock durable writer m h is sent some;
    }
