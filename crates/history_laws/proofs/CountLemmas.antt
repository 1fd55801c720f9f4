-- What a full vector counts of a writer is the front of the writer's logged events.
use Rattle.std.proofs.Common.{◌≡◌, ◌≤◌, ◌⊎◌, ℕ, Bool, true, false, cond, ◌&&◌, ◌||◌, nat_eq, List, [], ◌∷◌, ◌++◌, map, take, inl, inr, refl, sym, subst, ap, ◌∙◌, arith}
use Rattle.std.proofs.lemmas.Bool.{and_parts, or_parts, cases_Bool}
use Rattle.std.proofs.lemmas.Bool.Decides.{nat_tests}
use Rattle.std.specs.Prelude.{filter, length}
use Rattle.std.specs.List.{AllByRecursion}
use Rattle.key_model.specs.declared.events.Event.{Event}
use Rattle.key_model.specs.Events.{is_logged, is_by, conflicts}
use Rattle.key_model.specs.Causes.{touches, touches_one, ends_conflict, joining, reaching, full_vector}
use Rattle.history_model.specs.History.{Bound, Entry, events}
use Rattle.history_model.specs.Bounds.{BoundsOrderTouches, Bounded, bounded}
use Rattle.history_laws.specs.Statements.{the_event, IsCovered, logged_by}
use Rattle.history_laws.proofs.BoundLemmas.{covers_causes}
use Rattle.history_laws.proofs.ClosedLemmas.{events_bounded}

abbrev pub mine : ℕ → Event → Bool
mine w e = is_by w e && is_logged e

-- ---- a front of a list, counted

take_nothing : (xs : List Event) → take 0 xs ≡ []
take_nothing [] = refl
take_nothing (x ∷ xs) = refl

-- The test's count of some items is the length of the front of a list that they are.
abbrev pub IsFront : (Event → Bool) → List Event → List Event → Type 0
IsFront p found all = take (length (filter p found)) (filter p all) ≡ filter p found

front_more : (p : Event → Bool) (i : Event) (found all : List Event) → IsFront p found all → IsFront p (i ∷ found) (i ∷ all)
front_more p i found all h = by (p i)
  where
    by : (b : Bool) → take (length (cond b (i ∷ filter p found) (filter p found))) (cond b (i ∷ filter p all) (filter p all)) ≡ cond b (i ∷ filter p found) (filter p found)
    by true = ap (λ xs. i ∷ xs) h
    by false = h

front_skip : (p : Event → Bool) (i : Event) (found all : List Event) → p i ≡ false → IsFront p found all → IsFront p found (i ∷ all)
front_skip p i found all is h = ap (λ b. take (length (filter p found)) (cond b (i ∷ filter p all) (filter p all))) is ∙ h

front_none : (p : Event → Bool) (found all : List Event) → filter p found ≡ [] → IsFront p found all
front_none p found all h = subst (λ xs. take (length xs) (filter p all) ≡ xs) (sym h) (take_nothing (filter p all))

none_here : (p : Event → Bool) (found : List Event) → AllByRecursion (λ e. p e ≡ false) found → filter p found ≡ []
none_here p [] h = refl
none_here p (e ∷ es) h = ap (λ b. cond b (e ∷ filter p es) (filter p es)) h.0 ∙ none_here p es h.1

-- ---- an event of the writer that touches none of those found

same_actor : (w : ℕ) (i e : Event) → is_by w i ≡ true → is_by i.actor.0 e ≡ false → mine w e ≡ false
same_actor w i e own other = ap (λ b. b && is_logged e) (let z : nat_eq w e.actor.0 ≡ false = grind (arith, nat_tests) in z)

none_mine : (all : List Event) (w : ℕ) (i : Event) → is_by w i ≡ true → (found : List Event) → touches_one all found i ≡ false → AllByRecursion (λ e. mine w e ≡ false) found
none_mine all w i own [] h = tt
none_mine all w i own (e ∷ es) h =
    let both = or_parts (touches all i e) (touches_one all es i) h in
    let first = or_parts (is_by i.actor.0 e) (conflicts i e || ends_conflict all i.kind e) both.0 in
    (same_actor w i e own first.0, none_mine all w i own es both.1)

-- ---- the front

join_front : (all : List Event) (w : ℕ) (i : Event) (found rest : List Event) → IsFront (mine w) found rest
    → (t : Bool) → touches_one all found i ≡ t → IsFront (mine w) (joining t i found) (i ∷ rest)
join_front all w i found rest h true is = front_more (mine w) i found rest h
join_front all w i found rest h false is = by (cases_Bool (mine w i))
  where
    by : (mine w i ≡ true) ⊎ (mine w i ≡ false) → IsFront (mine w) found (i ∷ rest)
    by (inl own) =
        front_none (mine w) found (i ∷ rest)
        (none_here (mine w) found (none_mine all w i (and_parts (is_by w i) (is_logged i) own).0 found is))
    by (inr other) = front_skip (mine w) i found rest other h

pub reaching_front : (all : List Event) (w : ℕ) (before after : List Event) (j : Event) → IsFront (mine w) (reaching all before j) (before ++ j ∷ after)
reaching_front all w [] after j = front_more (mine w) j [] after (take_nothing (filter (mine w) after))
reaching_front all w (i ∷ before) after j =
    let found : List Event = reaching all before j in
    join_front all w i found (before ++ j ∷ after) (reaching_front all w before after j) (touches_one all found i) refl

-- ---- under the bound

mine_covered : (bound : Bound) (w : ℕ) (found : List Event) → AllByRecursion (IsCovered bound) found → AllByRecursion (λ (i : Event). i.stamp.0 ≤ bound w) (filter (mine w) found)
mine_covered bound w [] h = tt
mine_covered bound w (e ∷ es) h = by (cases_Bool (mine w e)) (mine_covered bound w es h.1)
  where
    under : mine w e ≡ true → e.stamp.0 ≤ bound w
    under is =
        let both = and_parts (is_by w e) (is_logged e) is in
        let same : w ≡ e.actor.0 = grind (arith, nat_tests) in
        subst (λ x. e.stamp.0 ≤ bound x) (sym same) (h.0 both.1)

    by : (mine w e ≡ true) ⊎ (mine w e ≡ false) → AllByRecursion (λ (i : Event). i.stamp.0 ≤ bound w) (filter (mine w) es)
        → AllByRecursion (λ (i : Event). i.stamp.0 ≤ bound w) (filter (mine w) (e ∷ es))
    by (inl is) rest = subst (λ b. AllByRecursion (λ (i : Event). i.stamp.0 ≤ bound w) (cond b (e ∷ filter (mine w) es) (filter (mine w) es))) (sym is) (under is, rest)
    by (inr is) rest = subst (λ b. AllByRecursion (λ (i : Event). i.stamp.0 ≤ bound w) (cond b (e ∷ filter (mine w) es) (filter (mine w) es))) (sym is) rest

map_append : (xs ys : List Bounded) → map the_event (xs ++ ys) ≡ map the_event xs ++ map the_event ys
map_append [] ys = refl
map_append (x ∷ xs) ys = ap (λ zs. the_event x ∷ zs) (map_append xs ys)

pub vectors_under : (entries : List Entry) → BoundsOrderTouches entries
    → (before after : List Bounded) (b : Bounded) → bounded entries ≡ before ++ b ∷ after
    → (w : ℕ)
    → AllByRecursion (λ (i : Event). i.stamp.0 ≤ b.bound w)
    (take (full_vector (events entries) (map the_event before) b.event w) (logged_by w (events entries)))
vectors_under entries h before after b split w =
    let found : List Event = reaching (events entries) (map the_event before) b.event in
    let whole : events entries ≡ map the_event before ++ b.event ∷ map the_event after =
    events_bounded entries ∙ ap (map the_event) split ∙ map_append before (b ∷ after) in
    let front : IsFront (mine w) found (events entries) =
    subst (IsFront (mine w) found) (sym whole) (reaching_front (events entries) w (map the_event before) (map the_event after) b.event) in
    subst (AllByRecursion (λ (i : Event). i.stamp.0 ≤ b.bound w)) (sym front) (mine_covered b.bound w found (covers_causes entries h before after b split))
