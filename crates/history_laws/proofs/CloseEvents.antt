-- A close of a history and one of its event list leave the same events.
use Rattle.std.proofs.Common.{◌≡◌, ◌<◌, ◌⊎◌, ℕ, Bool, true, false, not, ◌&&◌, ◌||◌, nat_eq, nat_le, List, [], ◌∷◌, ◌++◌, inl, inr, refl, sym, ap, ◌∙◌, arith}
use Rattle.std.proofs.lemmas.Bool.Decides.{nat_tests}
use Rattle.std.specs.List.{AllByRecursion, list_any, cons_option}
use Rattle.tm_data.specs.declared.log.Group.{Group}
use Rattle.key_model.specs.declared.events.Event.{Event}
use Rattle.key_model.specs.Events.{is_by, is_kept_log, unless_struck, after_close}
use Rattle.key_model.specs.Cuts.{Mark}
use Rattle.history_model.specs.History.{Deed, Reads, Logs, Entry, group_of, groups, events_of, events_in, events, some_event, keeps_reads, is_struck, unless, closed, read_by}
use Rattle.history_laws.specs.Closes.{LogsRise, ClosesAreOfEvents}
use Rattle.history_laws.proofs.ListLemmas.{all_map}
use Rattle.history_laws.proofs.CloseLemmas.{OfGroup, of_group, Above, no_keeper, rest_rise}

any_append : (p : Event → Bool) (xs ys : List Event) → list_any p (xs ++ ys) ≡ (list_any p xs || list_any p ys)
any_append p [] ys = refl
any_append p (x ∷ xs) ys = by (p x) (any_append p xs ys)
  where
    by : (b : Bool) → list_any p (xs ++ ys) ≡ (list_any p xs || list_any p ys) → (b || list_any p (xs ++ ys)) ≡ ((b || list_any p xs) || list_any p ys)
    by true rest = refl
    by false rest = rest

abbrev unless_many : Bool → List Event → List Event → List Event
unless_many true es kept = kept
unless_many false es kept = es ++ kept

module _ (writer size : ℕ) where
  -- ---- what keeps reads

  drop_true : (a c : Bool) → ((a && true) && c) ≡ (a && c)
  drop_true true c = refl
  drop_true false c = refl

  kept_log : (g : Group) (x : Event) → OfGroup writer size g x → is_kept_log writer size x ≡ (nat_eq writer g.writer.0 && nat_le g.seq size)
  kept_log g x of =
      ap (λ b. (nat_eq writer x.actor.0 && b) && nat_le x.seq size) of.logged
      ∙ ap (λ (m : Mark). (nat_eq writer m.writer && true) && nat_le m.seq size) of.is
      ∙ drop_true (nat_eq writer g.writer.0) (nat_le g.seq size)

  group_keeps : (g : Group) (c : Bool) → (nat_eq writer g.writer.0 && nat_le g.seq size) ≡ c → (xs : List Event) → AllByRecursion (OfGroup writer size g) xs
      → list_any (is_kept_log writer size) xs ≡ (c && some_event xs)
  group_keeps g true is [] of = refl
  group_keeps g false is [] of = refl
  group_keeps g true is (x ∷ xs) of = ap (λ b. b || list_any (is_kept_log writer size) xs) (kept_log g x of.0 ∙ is)
  group_keeps g false is (x ∷ xs) of = ap (λ b. b || list_any (is_kept_log writer size) xs) (kept_log g x of.0 ∙ is) ∙ group_keeps g false is xs of.1

  deed_keeps : (d : Deed) → list_any (is_kept_log writer size) (events_in d) ≡ keeps_reads writer size d
  deed_keeps (Reads w t key) = by (nat_eq writer w.0)
    where
      by : (b : Bool) → (((b && false) && nat_le 0 size) || false) ≡ false
      by true = refl
      by false = refl
  deed_keeps (Logs g) = group_keeps g (nat_eq writer g.writer.0 && nat_le g.seq size) refl (events_of g) (of_group writer size g g.records)

  keeps_same : (entries : List Entry) → list_any (is_kept_log writer size) (events entries) ≡ list_any (λ (e : Entry). keeps_reads writer size e.deed) entries
  keeps_same [] = refl
  keeps_same (e ∷ entries) =
      any_append (is_kept_log writer size) (events_in e.deed) (events entries)
      ∙ (λ i. deed_keeps e.deed i || keeps_same entries i)

  -- ---- events that stay, and events that go

  abbrev Stays : Event → Type 0
  Stays x = (is_by writer x ≡ false) ⊎ (is_kept_log writer size x ≡ true)

  stay : (xs later : List Event) → AllByRecursion Stays xs → after_close writer size (xs ++ later) ≡ xs ++ after_close writer size later
  stay [] later h = refl
  stay (x ∷ xs) later h =
      ap (λ b. unless_struck b x (after_close writer size (xs ++ later))) (by h.0) ∙ ap (λ es. x ∷ es) (stay xs later h.1)
    where
      by : Stays x → (is_by writer x && not (is_kept_log writer size x || list_any (is_kept_log writer size) (xs ++ later))) ≡ false
      by (inl foreign) = ap (λ b. b && not (is_kept_log writer size x || list_any (is_kept_log writer size) (xs ++ later))) foreign
      by (inr kept) =
          ap (λ b. is_by writer x && not (b || list_any (is_kept_log writer size) (xs ++ later))) kept ∙ no_true (is_by writer x)
        where
          no_true : (b : Bool) → (b && false) ≡ false
          no_true true = refl
          no_true false = refl

  abbrev Goes : Event → Type 0
  Goes x = (is_by writer x ≡ true) × (is_kept_log writer size x ≡ false)

  none_kept : (xs later : List Event) → AllByRecursion Goes xs → list_any (is_kept_log writer size) later ≡ false → list_any (is_kept_log writer size) (xs ++ later) ≡ false
  none_kept [] later h none = none
  none_kept (x ∷ xs) later h none = ap (λ b. b || list_any (is_kept_log writer size) (xs ++ later)) h.0.1 ∙ none_kept xs later h.1 none

  go : (xs later : List Event) → AllByRecursion Goes xs → list_any (is_kept_log writer size) later ≡ false → after_close writer size (xs ++ later) ≡ after_close writer size later
  go [] later h none = refl
  go (x ∷ xs) later h none =
      ap (λ b. unless_struck b x (after_close writer size (xs ++ later)))
      ((λ i. h.0.0 i && not (h.0.1 i || none_kept xs later h.1 none i)))
      ∙ go xs later h.1 none

  -- ---- entries

  unless_events : (b : Bool) (e : Entry) (es : List Entry) → events (unless b e es) ≡ unless_many b (events_in e.deed) (events es)
  unless_events true e es = refl
  unless_events false e es = refl

  same_deed : (d : Deed) (later : List Entry) → LogsRise (cons_option (group_of d) (groups later))
      → unless_many (is_struck writer size d later) (events_in d) (after_close writer size (events later)) ≡ after_close writer size (events_in d ++ events later)
  same_deed (Reads w t key) later logs = by (nat_eq writer w.0) refl
    where
      read : Event
      read = read_by w t key

      none_logged : (b : Bool) → ((b && false) && nat_le 0 size) ≡ false
      none_logged true = refl
      none_logged false = refl

      either : (c : Bool) → unless_many c (read_by w t key ∷ []) (after_close writer size (events later)) ≡ unless_struck c (read_by w t key) (after_close writer size (events later))
      either true = refl
      either false = refl

      by : (b : Bool) → nat_eq writer w.0 ≡ b
          → unless_many (nat_eq writer w.0 && not (list_any (λ (e : Entry). keeps_reads writer size e.deed) later)) (read_by w t key ∷ []) (after_close writer size (events later))
          ≡ unless_struck (nat_eq writer w.0 && not (((nat_eq writer w.0 && false) && nat_le 0 size) || list_any (is_kept_log writer size) (events later))) (read_by w t key) (after_close writer size (events later))
      by b is =
          either (nat_eq writer w.0 && not (list_any (λ (e : Entry). keeps_reads writer size e.deed) later))
          ∙ ap (λ c. unless_struck (nat_eq writer w.0 && not c) (read_by w t key) (after_close writer size (events later)))
          (sym (keeps_same later) ∙ sym (ap (λ c. c || list_any (is_kept_log writer size) (events later)) (none_logged (nat_eq writer w.0))))
  same_deed (Logs g) later logs = by (nat_eq writer g.writer.0) refl (nat_le g.seq size) refl
    where
      by : (b : Bool) → nat_eq writer g.writer.0 ≡ b → (c : Bool) → nat_le g.seq size ≡ c
          → unless_many (nat_eq writer g.writer.0 && not (nat_le g.seq size)) (events_of g) (after_close writer size (events later)) ≡ after_close writer size (events_of g ++ events later)
      by false is c in_it =
          ap (λ b. unless_many (b && not (nat_le g.seq size)) (events_of g) (after_close writer size (events later))) is
          ∙ sym (stay (events_of g) (events later)
          (all_map (OfGroup writer size g) Stays (λ x of. inl (ap (λ (m : Mark). nat_eq writer m.writer) of.is ∙ is)) (events_of g) (of_group writer size g g.records)))
      by true is true in_it =
          (λ i. unless_many (is i && not (in_it i)) (events_of g) (after_close writer size (events later)))
          ∙ sym (stay (events_of g) (events later)
          (all_map (OfGroup writer size g) Stays (λ x of. inr (kept_log g x of ∙ (λ i. is i && in_it i))) (events_of g) (of_group writer size g g.records)))
      by true is false in_it =
          (λ i. unless_many (is i && not (in_it i)) (events_of g) (after_close writer size (events later)))
          ∙ sym (go (events_of g) (events later)
          (all_map (OfGroup writer size g) Goes (λ x of. (ap (λ (m : Mark). nat_eq writer m.writer) of.is ∙ is, kept_log g x of ∙ (λ i. is i && in_it i))) (events_of g) (of_group writer size g g.records))
          (keeps_same later ∙ no_keeper writer size later
          (all_map (λ (h : Group). nat_eq g.writer.0 h.writer.0 ≡ true → (g.seq < h.seq) × (g.stamp.0 < h.stamp.0)) (Above writer size)
          (λ h f own. (let same : nat_eq g.writer.0 h.writer.0 ≡ true = grind (arith, nat_tests) in
          let less : g.seq < h.seq = (f same).0 in
          let more : size < g.seq = grind (arith, nat_tests) in
          omega (arith, less, more))) (groups later) logs.0)))

  same_events : (entries : List Entry) → LogsRise (groups entries) → events (closed writer size entries) ≡ after_close writer size (events entries)
  same_events [] logs = refl
  same_events (e ∷ later) logs =
      unless_events (is_struck writer size e.deed later) e (closed writer size later)
      ∙ ap (unless_many (is_struck writer size e.deed later) (events_in e.deed)) (same_events later (rest_rise writer size (events later) e.deed (groups later) logs))
      ∙ same_deed e.deed later logs

pub closes_of_events : ClosesAreOfEvents
closes_of_events entries writer size logs = same_events writer size entries logs
