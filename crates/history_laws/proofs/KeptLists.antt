-- Lists with a mark at each item that says whether it is kept.
use Rattle.std.proofs.Common.{◌≡◌, ℕ, Bool, true, false, not, ◌&&◌, ◌||◌, List, [], ◌∷◌, ◌++◌, map, refl, sym, subst, ap, ◌∙◌}
use Rattle.std.proofs.lemmas.Bool.{or_right}
use Rattle.std.specs.List.{AllByRecursion, list_any, cons_option}
use Rattle.tm_data.specs.declared.log.Group.{Group}
use Rattle.key_model.specs.declared.events.Event.{Event}
use Rattle.key_model.specs.declared.events.EventKind.{EventKind}
use Rattle.key_model.specs.declared.events.EventKind.TheVariants.{Read, Put, End}
use Rattle.key_model.specs.Events.{is_of, is_by, is_logged, conflicts}
use Rattle.key_model.specs.Causes.{touches, ends_conflict}
use Rattle.history_model.specs.History.{Deed, Reads, Logs, Entry, group_of, groups, events_in, events, is_struck, unless, closed}
use Rattle.history_model.specs.Bounds.{AtMost, Bounded, with_bound, bounded, TouchesRise, IsBelowOwn, BoundsOrderTouches}
use Rattle.history_laws.proofs.ListLemmas.{all_map}

-- ---- marked lists

pub record Marked (A : Type 0) : Type 0 where
  pub stays : Bool
  pub item : A

abbrev pub marked : {A : Type 0} → Bool → A → Marked A
marked b x = record { stays = b; item = x }

abbrev pub all_of : {A : Type 0} → List (Marked A) → List A
all_of [] = []
all_of (m ∷ ms) = m.item ∷ all_of ms

abbrev pub with_kept : {A : Type 0} → Bool → A → List A → List A
with_kept true x xs = x ∷ xs
with_kept false x xs = xs

abbrev pub kept_of : {A : Type 0} → List (Marked A) → List A
kept_of [] = []
kept_of (m ∷ ms) = with_kept m.stays m.item (kept_of ms)

pub all_kept : {A : Type 0} (P : A → Type 0) (ms : List (Marked A)) → AllByRecursion P (all_of ms) → AllByRecursion P (kept_of ms)
all_kept P [] h = tt
all_kept P (m ∷ ms) h = by m.stays (all_kept P ms h.1)
  where
    by : (b : Bool) → AllByRecursion P (kept_of ms) → AllByRecursion P (with_kept b m.item (kept_of ms))
    by true rest = (h.0, rest)
    by false rest = rest

pub any_of_kept : {A : Type 0} (p : A → Bool) (ms : List (Marked A)) → list_any p (kept_of ms) ≡ true → list_any p (all_of ms) ≡ true
any_of_kept p [] h = h
any_of_kept p (m ∷ ms) h = by m.stays h (any_of_kept p ms)
  where
    cases : (c : Bool) → (c || list_any p (kept_of ms)) ≡ true → (list_any p (kept_of ms) ≡ true → list_any p (all_of ms) ≡ true) → (c || list_any p (all_of ms)) ≡ true
    cases true h rest = refl
    cases false h rest = rest h

    by : (b : Bool) → list_any p (with_kept b m.item (kept_of ms)) ≡ true → (list_any p (kept_of ms) ≡ true → list_any p (all_of ms) ≡ true) → (p m.item || list_any p (all_of ms)) ≡ true
    by true h rest = cases (p m.item) h rest
    by false h rest = or_right (p m.item) (list_any p (all_of ms)) (rest h)

-- ---- the marks of a close

abbrev pub marks : ℕ → ℕ → List Entry → List (Marked Entry)
marks writer length [] = []
marks writer length (e ∷ later) = marked (not (is_struck writer length e.deed later)) e ∷ marks writer length later

pub all_marks : (writer length : ℕ) (entries : List Entry) → all_of (marks writer length entries) ≡ entries
all_marks writer length [] = refl
all_marks writer length (e ∷ later) = ap (λ es. e ∷ es) (all_marks writer length later)

unless_kept : (b : Bool) (e : Entry) (es : List Entry) → with_kept (not b) e es ≡ unless b e es
unless_kept true e es = refl
unless_kept false e es = refl

pub kept_marks : (writer length : ℕ) (entries : List Entry) → kept_of (marks writer length entries) ≡ closed writer length entries
kept_marks writer length [] = refl
kept_marks writer length (e ∷ later) =
    unless_kept (is_struck writer length e.deed later) e (kept_of (marks writer length later)) ∙ ap (unless (is_struck writer length e.deed later) e) (kept_marks writer length later)

-- ---- events, bounded events and groups of marked entries

abbrev pub each_marked : {A : Type 0} → Bool → List A → List (Marked A) → List (Marked A)
each_marked b [] ms = ms
each_marked b (x ∷ xs) ms = marked b x ∷ each_marked b xs ms

all_each : {A : Type 0} (b : Bool) (xs : List A) (ms : List (Marked A)) → all_of (each_marked b xs ms) ≡ xs ++ all_of ms
all_each b [] ms = refl
all_each b (x ∷ xs) ms = ap (λ ys. x ∷ ys) (all_each b xs ms)

pub kept_each : {A : Type 0} (xs : List A) (ms : List (Marked A)) → kept_of (each_marked true xs ms) ≡ xs ++ kept_of ms
kept_each [] ms = refl
kept_each (x ∷ xs) ms = ap (λ ys. x ∷ ys) (kept_each xs ms)

pub struck_each : {A : Type 0} (xs : List A) (ms : List (Marked A)) → kept_of (each_marked false xs ms) ≡ kept_of ms
struck_each [] ms = refl
struck_each (x ∷ xs) ms = struck_each xs ms

abbrev pub marked_events : List (Marked Entry) → List (Marked Event)
marked_events [] = []
marked_events (m ∷ ms) = each_marked m.stays (events_in m.item.deed) (marked_events ms)

pub all_events : (ms : List (Marked Entry)) → all_of (marked_events ms) ≡ events (all_of ms)
all_events [] = refl
all_events (m ∷ ms) = all_each m.stays (events_in m.item.deed) (marked_events ms) ∙ ap (λ es. events_in m.item.deed ++ es) (all_events ms)

pub kept_events : (ms : List (Marked Entry)) → kept_of (marked_events ms) ≡ events (kept_of ms)
kept_events [] = refl
kept_events (m ∷ ms) = by m.stays (kept_events ms)
  where
    by : (b : Bool) → kept_of (marked_events ms) ≡ events (kept_of ms) → kept_of (each_marked b (events_in m.item.deed) (marked_events ms)) ≡ events (with_kept b m.item (kept_of ms))
    by true rest = kept_each (events_in m.item.deed) (marked_events ms) ∙ ap (λ es. events_in m.item.deed ++ es) rest
    by false rest = struck_each (events_in m.item.deed) (marked_events ms) ∙ rest

abbrev pub marked_bounded : List (Marked Entry) → List (Marked Bounded)
marked_bounded [] = []
marked_bounded (m ∷ ms) = each_marked m.stays (map (with_bound m.item.bound) (events_in m.item.deed)) (marked_bounded ms)

pub all_bounded : (ms : List (Marked Entry)) → all_of (marked_bounded ms) ≡ bounded (all_of ms)
all_bounded [] = refl
all_bounded (m ∷ ms) =
    all_each m.stays (map (with_bound m.item.bound) (events_in m.item.deed)) (marked_bounded ms) ∙ ap (λ es. map (with_bound m.item.bound) (events_in m.item.deed) ++ es) (all_bounded ms)

pub kept_bounded : (ms : List (Marked Entry)) → kept_of (marked_bounded ms) ≡ bounded (kept_of ms)
kept_bounded [] = refl
kept_bounded (m ∷ ms) = by m.stays (kept_bounded ms)
  where
    by : (b : Bool) → kept_of (marked_bounded ms) ≡ bounded (kept_of ms)
        → kept_of (each_marked b (map (with_bound m.item.bound) (events_in m.item.deed)) (marked_bounded ms)) ≡ bounded (with_kept b m.item (kept_of ms))
    by true rest = kept_each (map (with_bound m.item.bound) (events_in m.item.deed)) (marked_bounded ms) ∙ ap (λ es. map (with_bound m.item.bound) (events_in m.item.deed) ++ es) rest
    by false rest = struck_each (map (with_bound m.item.bound) (events_in m.item.deed)) (marked_bounded ms) ∙ rest

abbrev pub marked_groups : List (Marked Entry) → List (Marked Group)
marked_groups [] = []
marked_groups (m ∷ ms) = each_marked m.stays (cons_option (group_of m.item.deed) []) (marked_groups ms)

all_groups : (ms : List (Marked Entry)) → all_of (marked_groups ms) ≡ groups (all_of ms)
all_groups [] = refl
all_groups (m ∷ ms) = by m.item.deed (all_groups ms)
  where
    by : (d : Deed) → all_of (marked_groups ms) ≡ groups (all_of ms) → all_of (each_marked m.stays (cons_option (group_of d) []) (marked_groups ms)) ≡ cons_option (group_of d) (groups (all_of ms))
    by (Reads w t key) rest = rest
    by (Logs g) rest = ap (λ gs. g ∷ gs) rest

kept_groups : (ms : List (Marked Entry)) → kept_of (marked_groups ms) ≡ groups (kept_of ms)
kept_groups [] = refl
kept_groups (m ∷ ms) = by m.stays m.item.deed refl (kept_groups ms)
  where
    by : (b : Bool) (d : Deed) → m.item.deed ≡ d → kept_of (marked_groups ms) ≡ groups (kept_of ms)
        → kept_of (each_marked b (cons_option (group_of d) []) (marked_groups ms)) ≡ groups (with_kept b m.item (kept_of ms))
    by true (Reads w t key) is rest = rest ∙ sym (ap (λ d. cons_option (group_of d) (groups (kept_of ms))) is)
    by true (Logs g) is rest = ap (λ gs. g ∷ gs) rest ∙ sym (ap (λ d. cons_option (group_of d) (groups (kept_of ms))) is)
    by false (Reads w t key) is rest = rest
    by false (Logs g) is rest = rest

pub groups_kept : (P : Group → Type 0) (ms : List (Marked Entry)) → AllByRecursion P (groups (all_of ms)) → AllByRecursion P (groups (kept_of ms))
groups_kept P ms h = subst (AllByRecursion P) (kept_groups ms) (all_kept P (marked_groups ms) (subst (AllByRecursion P) (sym (all_groups ms)) h))

-- ---- bounds

touches_more : (part whole : List Event) → ((p : Event → Bool) → list_any p part ≡ true → list_any p whole ≡ true) → (i j : Event) → touches part i j ≡ true → touches whole i j ≡ true
touches_more part whole sub i j h = by (is_by i.actor.0 j) (conflicts i j) h
  where
    ends_more : (kind : EventKind) → ends_conflict part kind j ≡ true → ends_conflict whole kind j ≡ true
    ends_more (Read t table k) h = h
    ends_more (Put t table k x) h = h
    ends_more (End t committed) h = sub (λ e. is_of t e && conflicts e j) h

    by : (b c : Bool) → (b || (c || ends_conflict part i.kind j)) ≡ true → (b || (c || ends_conflict whole i.kind j)) ≡ true
    by true c h = refl
    by false true h = refl
    by false false h = ends_more i.kind h

pub rise_kept : (part whole : List Event) → ((p : Event → Bool) → list_any p part ≡ true → list_any p whole ≡ true) → (ms : List (Marked Bounded)) → TouchesRise whole (all_of ms) → TouchesRise part (kept_of ms)
rise_kept part whole sub [] h = tt
rise_kept part whole sub (m ∷ ms) h = by m.stays (rise_kept part whole sub ms h.1)
  where
    by : (b : Bool) → TouchesRise part (kept_of ms) → TouchesRise part (with_kept b m.item (kept_of ms))
    by true rest = (
      all_map (λ (j : Bounded). touches whole m.item.event j.event ≡ true → AtMost m.item.bound j.bound) (λ (j : Bounded). touches part m.item.event j.event ≡ true → AtMost m.item.bound j.bound)
          (λ j f t. f (touches_more part whole sub m.item.event j.event t)) (kept_of ms)
          (all_kept (λ (j : Bounded). touches whole m.item.event j.event ≡ true → AtMost m.item.bound j.bound) ms h.0),
      rest,
    )
    by false rest = rest

pub touches_kept : (ms : List (Marked Entry)) → BoundsOrderTouches (all_of ms) → BoundsOrderTouches (kept_of ms)
touches_kept ms h = record {
  rise = subst (TouchesRise (events (kept_of ms))) (kept_bounded ms)
      (rise_kept (events (kept_of ms)) (events (all_of ms))
      (λ p any. subst (λ es. list_any p es ≡ true) (all_events ms) (any_of_kept p (marked_events ms) (subst (λ es. list_any p es ≡ true) (sym (kept_events ms)) any)))
      (marked_bounded ms) (subst (TouchesRise (events (all_of ms))) (sym (all_bounded ms)) h.rise));
  below = subst (AllByRecursion (λ (b : Bounded). is_logged b.event ≡ true → IsBelowOwn b)) (kept_bounded ms)
      (all_kept (λ (b : Bounded). is_logged b.event ≡ true → IsBelowOwn b) (marked_bounded ms)
      (subst (AllByRecursion (λ (b : Bounded). is_logged b.event ≡ true → IsBelowOwn b)) (sym (all_bounded ms)) h.below));
}
