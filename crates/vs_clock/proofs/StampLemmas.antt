-- A tick that happened before another has the smaller stamp.
use Rattle.std.proofs.Common.{◌≡◌, ◌<◌, ◌≤◌, ◌+◌, inl, inr, ℕ, Bool, true, false, List, [], ◌∷◌, ◌++◌, Option, Some, None, map, refl, sym, ◌∙◌, ap, subst, arith, append_assoc}
use Rattle.std.proofs.lemmas.List.{append-nil, map_push}
use Rattle.std.specs.Prelude.{slice_get}
use Rattle.vs_clock.specs.State.{State, can_tick, ticked}
use Rattle.vs_clock.specs.Run.{Event, Tick, SendScalar, SendVector, Receive, clock_of, Clock, Mark, World, begun, left, with_state, tick_done, hearing, received, happens, run}
use Rattle.vs_clock.specs.Causes.{IsSend}
use Rattle.vs_clock.specs.Laws.{StampsRise}
use Rattle.vs_clock.proofs.PlaceLemmas.{old_or_new}
use Rattle.vs_clock.proofs.ChainLemmas.{Chained, chained_at_start, Goes, chains_go_on, goes_along}

-- The scalar doesn't fall, and is below the stamp of each later tick.
abbrev NotAbove : Clock → Clock → Type 0
NotAbove p q = p.state.scalar ≤ q.state.scalar

record Precedes (x y : Mark) : Type 0 where
  pub scalars : x.after.state.scalar ≤ y.after.state.scalar
  pub rises : (stamp : ℕ) → y.stamp ≡ Some stamp → x.after.state.scalar < stamp

precedes_along : (x y z : Mark) → Precedes x y → Precedes y z → Precedes x z
precedes_along x y z p q = record {
  scalars = omega (arith, p.scalars, q.scalars);
  rises = λ stamp is. omega (arith, p.scalars, q.rises stamp is);
}

-- What is heard is not above the scalar afterwards, nor is what was there.
hearing_keeps : (s sender : State) (event : Event) → s.scalar ≤ (hearing s sender event).scalar
hearing_keeps s sender (SendScalar clock) = omega arith
hearing_keeps s sender (SendVector clock durable) = omega arith
hearing_keeps s sender (Tick clock) = omega arith
hearing_keeps s sender (Receive clock send) = omega arith

hearing_reaches : (s sender : State) (event : Event) → IsSend event → sender.scalar ≤ (hearing s sender event).scalar
hearing_reaches s sender (SendScalar clock) send = omega arith
hearing_reaches s sender (SendVector clock durable) send = omega arith
hearing_reaches s sender (Tick clock) send = absurd send
hearing_reaches s sender (Receive clock place) send = absurd send

received_keeps : (s : State) (m : Option Mark) → s.scalar ≤ (received s m).scalar
received_keeps s None = omega arith
received_keeps s (Some m) = hearing_keeps s m.after.state m.event

-- What each event shows.
quiet_goes : (w : World) (event : Event) → ((a clock : ℕ) → event ≡ Receive clock a → ⊥) → Goes NotAbove Precedes w event (w.clocks (clock_of event)) None
quiet_goes w event other = record {
  grows = omega arith;
  next = λ x below. record { scalars = below; rises = λ stamp is. absurd (cc) };
  hears = λ a clock x is there send. absurd (other a clock is);
}

tick_goes : (w : World) (clock : ℕ) →
    Goes NotAbove Precedes w (Tick clock) (record { state = ticked (w.clocks clock).state; last = (ticked (w.clocks clock).state).scalar }) (Some (ticked (w.clocks clock).state).scalar)
tick_goes w clock = record {
  grows = omega arith;
  next = λ x below. record {
    scalars = omega (arith, below);
    rises = λ stamp is. let e : (w.clocks clock).state.scalar + 1 ≡ stamp = cc in omega (arith, below, e);
  };
  hears = λ a other x is there send. absurd (cc);
}

receipt_goes : (w : World) (clock send : ℕ) →
    Goes NotAbove Precedes w (Receive clock send) (with_state (w.clocks clock) (received (w.clocks clock).state (slice_get w.past send))) None
receipt_goes w clock send = record {
  grows = received_keeps (w.clocks clock).state (slice_get w.past send);
  next = λ x below. record {
    scalars = omega (arith, below, received_keeps (w.clocks clock).state (slice_get w.past send));
    rises = λ stamp is. absurd (cc);
  };
  hears = λ a other x is there sent. record {
    scalars =
        let place : send ≡ a = cc in
        let found : slice_get w.past send ≡ Some x = ap (slice_get w.past) place ∙ there in
        subst (λ m. x.after.state.scalar ≤ (received (w.clocks clock).state m).scalar) (sym found) (hearing_reaches (w.clocks clock).state x.after.state x.event sent);
    rises = λ stamp is. absurd (cc);
  };
}

-- The invariant over the list.
record Stamped (events : List Event) (w : World) : Type 0 where
  pub same : map (λ (z : Mark). z.event) w.past ≡ events
  pub stamps : (i : ℕ) (m : Mark) (stamp : ℕ) → slice_get w.past i ≡ Some m → m.stamp ≡ Some stamp → stamp ≡ m.after.state.scalar
  pub chained : Chained NotAbove Precedes w

left_stamped : (events : List Event) (w : World) (event : Event) (after : Clock) (stamp : Option ℕ) → Stamped events w
    → ((t : ℕ) → stamp ≡ Some t → t ≡ after.state.scalar) → Goes NotAbove Precedes w event after stamp → Stamped (events ++ event ∷ []) (left w event after stamp)
left_stamped events w event after stamp s is_scalar goes = record {
  same = map_push (λ (z : Mark). z.event) w.past (record { event = event; after = after; stamp = stamp }) ∙ ap (λ z. z ++ event ∷ []) s.same;
  stamps = λ i m t h is. elim (old_or_new w.past (record { event = event; after = after; stamp = stamp }) i m h) [
    | inl old ↦ s.stamps i m t old.0 is
    | inr new ↦ is_scalar t (ap (λ (z : Mark). z.stamp) new.1 ∙ is) ∙ ap (λ (z : Mark). z.after.state.scalar) new.1
  ];
  chained = chains_go_on NotAbove Precedes (λ p. omega arith) (λ p q r h k. omega (arith, h, k)) w event after stamp s.chained goes;
}

tick_stamped : (events : List Event) (w : World) (clock : ℕ) (test : Bool) → Stamped events w → Stamped (events ++ Tick clock ∷ []) (tick_done w clock test)
tick_stamped events w clock true s = left_stamped events w (Tick clock) _ _ s (λ t is. cc) (tick_goes w clock)
tick_stamped events w clock false s = left_stamped events w (Tick clock) _ _ s (λ t is. absurd (cc)) (quiet_goes w (Tick clock) (λ a other is. cc))

happens_stamped : (events : List Event) (w : World) (event : Event) → Stamped events w → Stamped (events ++ event ∷ []) (happens w event)
happens_stamped events w (Tick clock) s = tick_stamped events w clock (can_tick (w.clocks clock).state) s
happens_stamped events w (SendScalar clock) s = left_stamped events w (SendScalar clock) _ _ s (λ t is. absurd (cc)) (quiet_goes w (SendScalar clock) (λ a other is. cc))
happens_stamped events w (SendVector clock durable) s = left_stamped events w (SendVector clock durable) _ _ s (λ t is. absurd (cc)) (quiet_goes w (SendVector clock durable) (λ a other is. cc))
happens_stamped events w (Receive clock send) s = left_stamped events w (Receive clock send) _ _ s (λ t is. absurd (cc)) (receipt_goes w clock send)

run_stamped : (before : List Event) (w : World) (events : List Event) → Stamped before w → Stamped (before ++ events) (run w events)
run_stamped before w [] s = subst (λ z. Stamped z w) (sym (append-nil before)) s
run_stamped before w (event ∷ events) s =
    subst (λ z. Stamped z (run (happens w event) events)) (append_assoc before (event ∷ []) events)
    (run_stamped (before ++ event ∷ []) (happens w event) events (happens_stamped before w event s))

start_stamped : (start : ℕ → ℕ) → Stamped [] (begun start)
start_stamped start = record {
  same = refl;
  stamps = λ i m stamp h is. absurd (cc);
  chained = chained_at_start NotAbove Precedes start;
}

pub stamps_rise : (start : ℕ → ℕ) (events : List Event) → StampsRise start events
stamps_rise start events a b clock other stamp later x y is_x is_y before =
    let s = run_stamped [] (begun start) events (start_stamped start) in
    let w = run (begun start) events in
    let first : Mark = record { event = Tick clock; after = x; stamp = Some stamp } in
    let second : Mark = record { event = Tick other; after = y; stamp = Some later } in
    let goes : Precedes first second = goes_along NotAbove Precedes precedes_along w events s.same s.chained a b before first second is_x is_y in
    omega (arith, s.stamps a first stamp is_x refl, goes.rises later refl)
