-- Bounds order touches: what reaches an event is under its bound.
use Rattle.std.proofs.Common.{◌≡◌, ◌≤◌, Bool, true, false, List, [], ◌∷◌, ◌++◌, map, inl, inr, refl, subst, ap, ◌∙◌, arith}
use Rattle.std.specs.List.{AllByRecursion}
use Rattle.key_model.specs.declared.events.Event.{Event}
use Rattle.key_model.specs.Events.{is_logged}
use Rattle.key_model.specs.Causes.{touches, touches_one, joining, reaching}
use Rattle.history_model.specs.History.{Bound, Entry, events}
use Rattle.history_model.specs.Bounds.{AtMost, TouchesRise, IsBelowOwn, BoundsOrderTouches, Bounded, bounded}
use Rattle.history_laws.specs.Statements.{the_event, IsCovered}
use Rattle.history_laws.proofs.ListLemmas.{Among, among_all, all_map, any_all}

-- The event is that of one among these, whose bound is at most this one.
record Comes (bound : Bound) (later : List Bounded) (e : Event) : Type 0 where
  pub of : Bounded
  pub is : of.event ≡ e
  pub among : Among of later
  pub most : AtMost of.bound bound

on : (bound : Bound) (later : List Bounded) (x : Bounded) (e : Event) → Comes bound later e → Comes bound (x ∷ later) e
on bound later x e c = record { of = c.of; is = c.is; among = inr c.among; most = c.most }

most_trans : (a b c : Bound) → AtMost a b → AtMost b c → AtMost a c
most_trans a b c f g w = omega (arith, f w, g w)

module _ (all : List Event) (bound : Bound) (i : Bounded) (later : List Bounded)
    (rise : AllByRecursion (λ (j : Bounded). touches all i.event j.event ≡ true → AtMost i.bound j.bound) later) where
  new_comes : (found : List Event) → AllByRecursion (Comes bound later) found → touches_one all found i.event ≡ true → Comes bound (i ∷ later) i.event
  new_comes found old is =
      let w = any_all (touches all i.event) (Comes bound later) found is old in
      let rises = among_all (λ (j : Bounded). touches all i.event j.event ≡ true → AtMost i.bound j.bound) w.2.of later rise w.2.among in
      record { of = i; is = refl; among = inl refl; most = most_trans i.bound w.2.of.bound bound (rises (ap (touches all i.event) w.2.is ∙ w.1)) w.2.most }

  joining_comes : (found : List Event) → AllByRecursion (Comes bound later) found → (t : Bool) → touches_one all found i.event ≡ t
      → AllByRecursion (Comes bound (i ∷ later)) (joining t i.event found)
  joining_comes found old true is = (new_comes found old is, all_map (Comes bound later) (Comes bound (i ∷ later)) (on bound later i) found old)
  joining_comes found old false is = all_map (Comes bound later) (Comes bound (i ∷ later)) (on bound later i) found old

reaching_comes : (all : List Event) (before after : List Bounded) (b : Bounded) → TouchesRise all (before ++ b ∷ after)
    → AllByRecursion (Comes b.bound (before ++ b ∷ after)) (reaching all (map the_event before) b.event)
reaching_comes all [] after b h = (record { of = b; is = refl; among = inl refl; most = λ w. omega arith }, tt)
reaching_comes all (i ∷ before) after b h =
    let found : List Event = reaching all (map the_event before) b.event in
    joining_comes all b.bound i (before ++ b ∷ after) h.0 found (reaching_comes all before after b h.1) (touches_one all found i.event) refl

covered : (bound : Bound) (later : List Bounded) (e : Event) → AllByRecursion (λ (b : Bounded). is_logged b.event ≡ true → IsBelowOwn b) later
    → Comes bound later e → IsCovered bound e
covered bound later e below c is =
    let own = among_all (λ (b : Bounded). is_logged b.event ≡ true → IsBelowOwn b) c.of later below c.among (ap is_logged c.is ∙ is) in
    subst (λ (x : Event). x.stamp.0 ≤ bound x.actor.0) c.is (omega (arith, own.own, c.most c.of.event.actor.0))

pub covers_causes : (entries : List Entry) → BoundsOrderTouches entries
    → (before after : List Bounded) (b : Bounded) → bounded entries ≡ before ++ b ∷ after
    → AllByRecursion (IsCovered b.bound) (reaching (events entries) (map the_event before) b.event)
covers_causes entries h before after b split =
    let later : List Bounded = before ++ b ∷ after in
    let rise = subst (TouchesRise (events entries)) split h.rise in
    let below = subst (AllByRecursion (λ (x : Bounded). is_logged x.event ≡ true → IsBelowOwn x)) split h.below in
    all_map (Comes b.bound later) (IsCovered b.bound) (λ e. covered b.bound later e below) _ (reaching_comes (events entries) before after b rise)
