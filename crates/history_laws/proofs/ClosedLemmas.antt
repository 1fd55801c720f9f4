-- The cuts of scalars and of closed vectors are closed.
use Rattle.std.proofs.Common.{◌≡◌, ◌≤◌, ◌⊎◌, ℕ, true, nat_le, List, [], ◌∷◌, ◌++◌, map, inl, inr, refl, sym, subst, ap, ◌∙◌, arith}
use Rattle.std.proofs.lemmas.Bool.{cases_eq, and_parts}
use Rattle.std.proofs.lemmas.Bool.Decides.{nat_tests}
use Rattle.std.specs.List.{AllByRecursion, filter_map}
use Rattle.tm_data.specs.declared.log.Group.{Group}
use Rattle.tm_data.specs.declared.log.Record.{Record}
use Rattle.tm_data.specs.declared.log.Record.TheVariants as change
use Rattle.key_model.specs.declared.events.Event.{Event}
use Rattle.key_model.specs.Events.{is_logged}
use Rattle.key_model.specs.Causes.{reaching}
use Rattle.key_model.specs.Cuts.{upto, under, IsIn, IsClosed}
use Rattle.history_model.specs.History.{Bound, Deed, Reads, Logs, Entry, events, events_in, event_of, events_of}
use Rattle.history_model.specs.Bounds.{AtMost, has_under, IsBelowOwn, BoundsOrderTouches, Bounded, bounded, with_bound, IsOwnCover}
use Rattle.history_laws.specs.Statements.{the_event, IsCovered}
use Rattle.history_laws.proofs.ListLemmas.{all_map, all_split}
use Rattle.history_laws.proofs.BoundLemmas.{covers_causes}

-- ---- events and bounded events

events_again : (bound : Bound) (es : List Event) (rest : List Bounded) (more : List Event) → more ≡ map the_event rest
    → es ++ more ≡ map the_event (map (with_bound bound) es ++ rest)
events_again bound [] rest more h = h
events_again bound (e ∷ es) rest more h = ap (λ xs. e ∷ xs) (events_again bound es rest more h)

pub events_bounded : (entries : List Entry) → events entries ≡ map the_event (bounded entries)
events_bounded [] = refl
events_bounded (e ∷ entries) = events_again e.bound (events_in e.deed) (bounded entries) (events entries) (events_bounded entries)

-- A split of the events is one of the bounded events.
pub record Splits (bs : List Bounded) (before : List Event) (j : Event) : Type 0 where
  pub front : List Bounded
  pub at : Bounded
  pub back : List Bounded
  pub is : bs ≡ front ++ at ∷ back
  pub front_is : map the_event front ≡ before
  pub at_is : at.event ≡ j

abbrev head_of : Event → List Event → Event
head_of d [] = d
head_of d (e ∷ es) = e

abbrev tail_of : List Event → List Event
tail_of [] = []
tail_of (e ∷ es) = es

pub split_events : (bs : List Bounded) (before after : List Event) (j : Event) → map the_event bs ≡ before ++ j ∷ after → Splits bs before j
split_events [] [] after j h = absurd (cc h)
split_events [] (x ∷ before) after j h = absurd (cc h)
split_events (b ∷ bs) [] after j h = record { front = []; at = b; back = bs; is = refl; front_is = refl; at_is = ap (head_of j) h }
split_events (b ∷ bs) (x ∷ before) after j h =
    let r = split_events bs before after j (ap tail_of h) in
    record { front = b ∷ r.front; at = r.at; back = r.back; is = ap (λ xs. b ∷ xs) r.is; front_is = (λ i. ap (head_of j) h i ∷ r.front_is i); at_is = r.at_is }

-- ---- scalars

below_stamp : (b : Bounded) → IsBelowOwn b → (w : ℕ) → b.bound w ≤ b.event.stamp.0
below_stamp b h w = by (cases_eq w b.event.actor.0)
  where
    by : (w ≡ b.event.actor.0) ⊎ (w ≡ b.event.actor.0 → ⊥) → b.bound w ≤ b.event.stamp.0
    by (inl e) = subst (λ x. b.bound x ≤ b.event.stamp.0) (sym e) (omega (arith, h.own))
    by (inr ne) = omega (arith, h.others w ne)

le_of : (a b : ℕ) → nat_le a b ≡ true → a ≤ b
le_of a b h = grind (arith, nat_tests)

le_is : (a b : ℕ) → a ≤ b → nat_le a b ≡ true
le_is a b h = grind (arith, nat_tests)

-- what is known of an event of a cut: it is that of one with a bound, whose bound covers what reaches it
record Known (entries : List Entry) (before : List Event) (j : Event) : Type 0 where
  pub of : Bounded
  pub is : of.event ≡ j
  pub front : List Bounded
  pub back : List Bounded
  pub split : bounded entries ≡ front ++ of ∷ back
  pub covers : AllByRecursion (IsCovered of.bound) (reaching (events entries) before j)

known : (entries : List Entry) → BoundsOrderTouches entries → (before after : List Event) (j : Event) → events entries ≡ before ++ j ∷ after → Known entries before j
known entries h before after j split =
    let s = split_events (bounded entries) before after j (sym (events_bounded entries) ∙ split) in
    record {
      of = s.at;
      is = s.at_is;
      front = s.front;
      back = s.back;
      split = s.is;
      covers = subst (λ e. AllByRecursion (IsCovered s.at.bound) (reaching (events entries) before e)) s.at_is
          (subst (λ xs. AllByRecursion (IsCovered s.at.bound) (reaching (events entries) xs s.at.event)) s.front_is (covers_causes entries h s.front s.back s.at s.is));
    }

at_split : (P : Bounded → Type 0) (xs ys : List Bounded) (b : Bounded) → AllByRecursion P (xs ++ b ∷ ys) → P b
at_split P xs ys b h = ((all_split P xs (b ∷ ys) h).1).0

pub scalar_closed : (entries : List Entry) → BoundsOrderTouches entries → (s : ℕ) → IsClosed (events entries) (upto s)
scalar_closed entries h s before after j split inside =
    let k = known entries h before after j split in
    let logged : (is_logged j ≡ true) × (nat_le j.stamp.0 s ≡ true) = and_parts _ _ inside in
    let own = at_split (λ (b : Bounded). is_logged b.event ≡ true → IsBelowOwn b) k.front k.back k.of (subst (AllByRecursion (λ (b : Bounded). is_logged b.event ≡ true → IsBelowOwn b)) k.split h.below) (ap is_logged k.is ∙ logged.0) in
    let stamp : k.of.event.stamp.0 ≡ j.stamp.0 = ap (λ (e : Event). e.stamp.0) k.is in
    all_map (IsCovered k.of.bound) (IsIn (upto s))
    (λ e c is. le_is e.stamp.0 s (omega (arith, c is, below_stamp k.of own e.actor.0, stamp, le_of j.stamp.0 s logged.1))) _ k.covers

-- ---- vectors

-- The event of a group has the group's writer and stamp.
record IsOfGroup (g : Group) (e : Event) : Type 0 where
  pub actor : e.actor.0 ≡ g.writer.0
  pub stamp : e.stamp.0 ≡ g.stamp.0

of_group : (g : Group) (rs : List Record) → AllByRecursion (IsOfGroup g) (filter_map (event_of g) rs)
of_group g [] = tt
of_group g (change.RowSet page prev table row ∷ rs) = (record { actor = refl; stamp = refl }, of_group g rs)
of_group g (change.Cut page prev at ∷ rs) = of_group g rs
of_group g (change.Format page prev body ∷ rs) = of_group g rs
of_group g (change.NodeAdd page prev key child ∷ rs) = of_group g rs
of_group g (change.End t committed ∷ rs) = (record { actor = refl; stamp = refl }, of_group g rs)
of_group g (change.Beat ∷ rs) = of_group g rs

abbrev Under : Bound → Bounded → Type 0
Under v b = is_logged b.event ≡ true → nat_le b.event.stamp.0 (v b.event.actor.0) ≡ true → AtMost b.bound v

with_bounds : (v bound : Bound) (g : Group) (es : List Event) (rest : List Bounded) → AllByRecursion (IsOfGroup g) es
    → (nat_le g.stamp.0 (v g.writer.0) ≡ true → AtMost bound v) → AllByRecursion (Under v) rest → AllByRecursion (Under v) (map (with_bound bound) es ++ rest)
with_bounds v bound g [] rest of most h = h
with_bounds v bound g (e ∷ es) rest of most h =
    (λ is le. most (sym (λ i. nat_le (of.0.stamp i) (v (of.0.actor i))) ∙ le), with_bounds v bound g es rest of.1 most h)

in_deed : (v bound : Bound) (d : Deed) (rest : List Bounded) → (has_under v d ≡ true → AtMost bound v) → AllByRecursion (Under v) rest
    → AllByRecursion (Under v) (map (with_bound bound) (events_in d) ++ rest)
in_deed v bound (Reads w t key) rest most h = (λ is le. absurd (cc is), h)
in_deed v bound (Logs g) rest most h = with_bounds v bound g (events_of g) rest (of_group g g.records) most h

all_under : (entries : List Entry) (v : Bound) → IsOwnCover entries v → AllByRecursion (Under v) (bounded entries)
all_under [] v h = tt
all_under (e ∷ entries) v h = in_deed v e.bound e.deed (bounded entries) h.0 (all_under entries v h.1)

pub vector_closed : (entries : List Entry) → BoundsOrderTouches entries → (v : Bound) → IsOwnCover entries v → IsClosed (events entries) (under v)
vector_closed entries h v own before after j split inside =
    let k = known entries h before after j split in
    let logged : (is_logged j ≡ true) × (nat_le j.stamp.0 (v j.actor.0) ≡ true) = and_parts _ _ inside in
    let most = at_split (Under v) k.front k.back k.of (subst (AllByRecursion (Under v)) k.split (all_under entries v own))
    (ap is_logged k.is ∙ logged.0) (ap (λ (e : Event). nat_le e.stamp.0 (v e.actor.0)) k.is ∙ logged.1) in
    all_map (IsCovered k.of.bound) (IsIn (under v))
    (λ e c is. le_is e.stamp.0 (v e.actor.0) (omega (arith, c is, most e.actor.0))) _ k.covers
