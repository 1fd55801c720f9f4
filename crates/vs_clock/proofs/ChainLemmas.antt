-- What goes along the events of one clock and along messages goes along happened-before.
use Rattle.std.proofs.Common.{◌≡◌, ◌<◌, inl, inr, ℕ, Bool, true, false, cond, nat_eq, List, Option, Some, map, refl, sym, ◌∙◌, ap, subst, arith}
use Rattle.std.specs.Prelude.{slice_get}
use Rattle.std.proofs.lemmas.Bool.Decides.{nat_tests}
use Rattle.vs_clock.specs.Run.{Event, Receive, clock_of, Clock, Mark, World, begun, with_clock, left}
use Rattle.vs_clock.specs.Causes.{IsSend, HappenedBefore, same_clock, message, through}
use Rattle.vs_clock.proofs.PlaceLemmas.{old_or_new, image_at, origin_at}

-- One clock changes.
pub with_clock_same : (clocks : ℕ → Clock) (writer other : ℕ) (after : Clock) → other ≡ writer → with_clock clocks writer after other ≡ after
with_clock_same clocks writer other after same = ap (λ b. cond b after (clocks other)) (is_same other writer same)
  where
    is_same : (m n : ℕ) → m ≡ n → nat_eq m n ≡ true
    is_same m n h = grind (arith, nat_tests)

pub with_clock_at : (P : Clock → Type 0) (clocks : ℕ → Clock) (writer other : ℕ) (after : Clock) → (other ≡ writer → P after) → P (clocks other) → P (with_clock clocks writer after other)
with_clock_at P clocks writer other after here there = by_test (nat_eq other writer) (λ h. here (same other writer h))
  where
    same : (m n : ℕ) → nat_eq m n ≡ true → m ≡ n
    same m n h = grind (arith, nat_tests)

    by_test : (b : Bool) → (b ≡ true → P after) → P (cond b after (clocks other))
    by_test true h = h refl
    by_test false h = there

-- `L` goes from each event to the present state of its clock, and `R` from each event to the later ones
-- of its clock and to the receipts of what it sent.
pub record Chained (L : Clock → Clock → Type 0) (R : Mark → Mark → Type 0) (w : World) : Type 0 where
  pub latest : (i : ℕ) (m : Mark) → slice_get w.past i ≡ Some m → L m.after (w.clocks (clock_of m.event))
  pub in_order : (a b : ℕ) (x y : Mark) → a < b → slice_get w.past a ≡ Some x → slice_get w.past b ≡ Some y → clock_of x.event ≡ clock_of y.event → R x y
  pub by_message : (a b clock : ℕ) (x y : Mark) → a < b → slice_get w.past a ≡ Some x → IsSend x.event → slice_get w.past b ≡ Some y → y.event ≡ Receive clock a → R x y

pub chained_at_start : (L : Clock → Clock → Type 0) (R : Mark → Mark → Type 0) (start : ℕ → ℕ) → Chained L R (begun start)
chained_at_start L R start = record {
  latest = λ i m h. absurd (cc);
  in_order = λ a b x y less h k same. absurd (cc);
  by_message = λ a b clock x y less h send k is. absurd (cc);
}

abbrev mark : Event → Clock → Option ℕ → Mark
mark event after stamp = record { event = event; after = after; stamp = stamp }

-- What an event has to show so that the chains go on.
pub record Goes (L : Clock → Clock → Type 0) (R : Mark → Mark → Type 0) (w : World) (event : Event) (after : Clock) (stamp : Option ℕ) : Type 0 where
  pub grows : L (w.clocks (clock_of event)) after
  pub next : (x : Mark) → L x.after (w.clocks (clock_of event)) → R x (record { event = event; after = after; stamp = stamp })
  pub hears : (a clock : ℕ) (x : Mark) → event ≡ Receive clock a → slice_get w.past a ≡ Some x → IsSend x.event → R x (record { event = event; after = after; stamp = stamp })

pub chains_go_on : (L : Clock → Clock → Type 0) (R : Mark → Mark → Type 0) → ((p : Clock) → L p p) → ((p q r : Clock) → L p q → L q r → L p r)
    → (w : World) (event : Event) (after : Clock) (stamp : Option ℕ) → Chained L R w → Goes L R w event after stamp → Chained L R (left w event after stamp)
chains_go_on L R itself along w event after stamp c g = record {
  latest = λ i m h. elim (old_or_new w.past (mark event after stamp) i m h) [
    | inl old ↦ with_clock_at (λ q. L m.after q) w.clocks (clock_of event) (clock_of m.event) after
        (λ same. along m.after (w.clocks (clock_of event)) after (subst (λ v. L m.after (w.clocks v)) same (c.latest i m old.0)) g.grows)
        (c.latest i m old.0)
    | inr new ↦ subst (λ (z : Mark). L z.after (with_clock w.clocks (clock_of event) after (clock_of z.event))) new.1
        (subst (λ q. L after q) (sym (with_clock_same w.clocks (clock_of event) (clock_of event) after refl)) (itself after))
  ];
  in_order = λ a b x y less h k same. elim (old_or_new w.past (mark event after stamp) b y k) [
    | inl old_y ↦ elim (old_or_new w.past (mark event after stamp) a x h) [
      | inl old_x ↦ c.in_order a b x y less old_x.0 old_y.0 same
      | inr new_x ↦ absurd (omega (arith, old_y.1, new_x.0))
    ]
    | inr new_y ↦ elim (old_or_new w.past (mark event after stamp) a x h) [
      | inl old_x ↦ subst (R x) new_y.1 (g.next x (subst (λ v. L x.after (w.clocks v)) (same ∙ ap (λ (z : Mark). clock_of z.event) (sym new_y.1)) (c.latest a x old_x.0)))
      | inr new_x ↦ absurd (omega (arith, new_y.0, new_x.0))
    ]
  ];
  by_message = λ a b clock x y less h send k is. elim (old_or_new w.past (mark event after stamp) b y k) [
    | inl old_y ↦ elim (old_or_new w.past (mark event after stamp) a x h) [
      | inl old_x ↦ c.by_message a b clock x y less old_x.0 send old_y.0 is
      | inr new_x ↦ absurd (omega (arith, old_y.1, new_x.0))
    ]
    | inr new_y ↦ elim (old_or_new w.past (mark event after stamp) a x h) [
      | inl old_x ↦ subst (R x) new_y.1 (g.hears a clock x (ap (λ (z : Mark). z.event) new_y.1 ∙ is) old_x.0 send)
      | inr new_x ↦ absurd (omega (arith, new_y.0, new_x.0))
    ]
  ];
}

-- The first of two related events stands in the list.
pub begins : (events : List Event) (a b : ℕ) → HappenedBefore events a b → (e : Event) × (slice_get events a ≡ Some e)
begins events a b (same_clock _ _ x y less at_a at_b one) = (x, at_a)
begins events a b (message _ _ clock x less at_a send at_b) = (x, at_a)
begins events a b (through _ m _ p q) = begins events a m p

event_is : (past : List Mark) (events : List Event) (i : ℕ) (m : Mark) (e : Event) → map (λ (z : Mark). z.event) past ≡ events → slice_get past i ≡ Some m → slice_get events i ≡ Some e → m.event ≡ e
event_is past events i m e same h k = let there : slice_get events i ≡ Some m.event = image_at (λ (z : Mark). z.event) past events i m same h in cc

pub goes_along : (L : Clock → Clock → Type 0) (R : Mark → Mark → Type 0) → ((x y z : Mark) → R x y → R y z → R x z)
    → (w : World) (events : List Event) → map (λ (z : Mark). z.event) w.past ≡ events → Chained L R w
    → (a b : ℕ) → HappenedBefore events a b → (x y : Mark) → slice_get w.past a ≡ Some x → slice_get w.past b ≡ Some y → R x y
goes_along L R along w events same c a b (same_clock _ _ e f less at_a at_b one) x y h k =
    c.in_order a b x y less h k
    (ap clock_of (event_is w.past events a x e same h at_a) ∙ one ∙ ap clock_of (sym (event_is w.past events b y f same k at_b)))
goes_along L R along w events same c a b (message _ _ clock e less at_a send at_b) x y h k =
    c.by_message a b clock x y less h (subst IsSend (sym (event_is w.past events a x e same h at_a)) send) k (event_is w.past events b y (Receive clock a) same k at_b)
goes_along L R along w events same c a b (through _ m _ p q) x y h k =
    let middle = begins events m b q in
    let there = origin_at (λ (z : Mark). z.event) w.past events m middle.0 same middle.1 in
    along x there.0 y (goes_along L R along w events same c a m p x there.0 h there.1) (goes_along L R along w events same c m b q there.0 y there.1 k)
