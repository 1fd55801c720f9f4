-- What a close leaves has every premise again.
use Rattle.std.proofs.Common.{◌≡◌, ◌≢◌, ◌<◌, ℕ, Bool, true, false, not, cond, ◌&&◌, ◌||◌, nat_eq, nat_le, List, [], ◌∷◌, ◌++◌, refl, sym, subst, ap, ◌∙◌, arith}
use Rattle.std.proofs.lemmas.Bool.{and_parts}
use Rattle.std.proofs.lemmas.Bool.Decides.{nat_tests}
use Rattle.std.specs.List.{AllByRecursion, list_any, filter, filter_map, cons_option}
use Rattle.tm_data.specs.declared.log.Group.{Group}
use Rattle.tm_data.specs.declared.log.Record.{Record}
use Rattle.tm_data.specs.declared.log.Record.TheVariants as change
use Rattle.key_model.specs.declared.events.Event.{Event}
use Rattle.key_model.specs.Events.{is_logged, is_by}
use Rattle.key_model.specs.Causes.{touches}
use Rattle.key_model.specs.Cuts.{Mark, is_in, mark_of, IsIn}
use Rattle.key_model.specs.Clean.{IsClean}
use Rattle.page_model.specs.Effects.{prev_of}
use Rattle.history_model.specs.History.{Deed, Reads, Logs, Entry, group_of, groups, mark, has, event_of, events_of, events_in, events, some_event, keeps_reads, is_struck, unless, closed}
use Rattle.history_model.specs.Bounds.{AtMost, BoundsOrderTouches}
use Rattle.history_model.specs.Images.{stands_on, AllFit, IsWhole, StampsRise, HasOwn, stands, BoundsOrderPages}
use Rattle.history_laws.specs.Closes.{LogsRise, StrikesNoCause, is_struck_group, StrikesNoVersion, staying, ClosesKeepPremises}
use Rattle.history_laws.proofs.ListLemmas.{all_map}
use Rattle.history_laws.proofs.WholeLemmas.{below, both_of}
use Rattle.history_laws.proofs.CutRuns.{part_fit}
use Rattle.history_laws.proofs.KeptLists.{Marked, all_of, kept_of, marks, all_marks, kept_marks, each_marked, struck_each, marked_events, all_events, kept_events, all_kept, touches_kept}
use Rattle.history_laws.proofs.CloseClean.{TouchesNone, NoCauseGoes, stays_clean}

not_is : (b : Bool) → not b ≡ false → b ≡ true
not_is true h = refl
not_is false h = absurd (cc h)

not_no : (b : Bool) → not b ≡ true → b ≡ false
not_no true h = absurd (cc h)
not_no false h = refl

-- ---- a writer's groups in order

abbrev Later : Group → Group → Type 0
Later g h = nat_eq g.writer.0 h.writer.0 ≡ true → g.seq < h.seq → g.stamp.0 < h.stamp.0

other_way : (g x : Group) → (nat_eq x.writer.0 g.writer.0 ≡ true → (x.seq < g.seq) × (x.stamp.0 < g.stamp.0)) → Later g x
other_way g x h same less =
    let turned : nat_eq x.writer.0 g.writer.0 ≡ true = grind (arith, nat_tests) in
    absurd (omega (arith, (h turned).0, less))

in_order : (gs : List Group) → LogsRise gs → AllByRecursion (λ (g : Group). AllByRecursion (Later g) gs) gs
in_order [] h = tt
in_order (x ∷ xs) h = (
  (λ same less. absurd (omega (arith, less)), all_map (λ (g : Group). nat_eq x.writer.0 g.writer.0 ≡ true → (x.seq < g.seq) × (x.stamp.0 < g.stamp.0)) (Later x) (λ g f same less. (f same).1) xs h.0),
  all_map (λ (g : Group). (nat_eq x.writer.0 g.writer.0 ≡ true → (x.seq < g.seq) × (x.stamp.0 < g.stamp.0)) × AllByRecursion (Later g) xs) (λ (g : Group). AllByRecursion (Later g) (x ∷ xs))
      (λ g p. (other_way g x p.0, p.1)) xs
      (both_of (λ (g : Group). nat_eq x.writer.0 g.writer.0 ≡ true → (x.seq < g.seq) × (x.stamp.0 < g.stamp.0)) (λ (g : Group). AllByRecursion (Later g) xs) xs h.0 (in_order xs h.1)),
)

all_filter : (P : Group → Type 0) (p : Group → Bool) (gs : List Group) → AllByRecursion P gs → AllByRecursion P (filter p gs)
all_filter P p [] h = tt
all_filter P p (g ∷ gs) h = by (p g) (all_filter P p gs h.1)
  where
    by : (b : Bool) → AllByRecursion P (filter p gs) → AllByRecursion P (cond b (g ∷ filter p gs) (filter p gs))
    by true rest = (h.0, rest)
    by false rest = rest

logs_rise : (p : Group → Bool) (gs : List Group) → LogsRise gs → LogsRise (filter p gs)
logs_rise p [] h = tt
logs_rise p (g ∷ gs) h = by (p g) (logs_rise p gs h.1)
  where
    by : (b : Bool) → LogsRise (filter p gs) → LogsRise (cond b (g ∷ filter p gs) (filter p gs))
    by true rest = (all_filter (λ (k : Group). nat_eq g.writer.0 k.writer.0 ≡ true → (g.seq < k.seq) × (g.stamp.0 < k.stamp.0)) p gs h.0, rest)
    by false rest = rest

-- ---- the cut of what stays is whole for pages

module _ (writer length : ℕ) where
  struck_stays : (g h : Group) → has (staying writer length) g ≡ true → AllByRecursion (λ (r : Record). prev_of r ≢ 0 → prev_of r < g.stamp.0) g.records
      → (nat_eq writer g.writer.0 ≡ false → is_struck_group writer length h ≡ true → stands_on g h ≡ false) → Later g h
      → stands_on g h ≡ true → (b : Bool) → is_struck_group writer length h ≡ b → has (staying writer length) h ≡ true
  struck_stays g h stays rise other later on false is = ap not is
  struck_stays g h stays rise other later on true is = absurd (by (nat_eq writer g.writer.0) refl)
    where
      by : (b : Bool) → nat_eq writer g.writer.0 ≡ b → ⊥
      by false foreign = cc (other foreign is, on)
      by true mine =
          let both = and_parts (nat_eq writer h.writer.0) (not (nat_le h.seq length)) is in
          let above : nat_le h.seq length ≡ false = not_no (nat_le h.seq length) both.1 in
          let kept : not (nat_eq writer g.writer.0 && not (nat_le g.seq length)) ≡ true = stays in
          let within : nat_le g.seq length ≡ true = not_is (nat_le g.seq length) (ap (λ b. b && not (nat_le g.seq length)) (sym mine) ∙ not_no (nat_eq writer g.writer.0 && not (nat_le g.seq length)) kept) in
          let same : nat_eq g.writer.0 h.writer.0 ≡ true = grind (arith, nat_tests) in
          let less : g.seq < h.seq = grind (arith, nat_tests) in
          omega (arith, later same less, below g h rise on)

  abbrev Facts : List Group → Group → Type 0
  Facts gs g =
      AllByRecursion (λ (r : Record). prev_of r ≢ 0 → prev_of r < g.stamp.0) g.records
      × ((nat_eq writer g.writer.0 ≡ false → AllByRecursion (λ (h : Group). is_struck_group writer length h ≡ true → stands_on g h ≡ false) gs) × AllByRecursion (Later g) gs)

  whole_at : (gs hs : List Group) (g : Group) → has (staying writer length) g ≡ true → AllByRecursion (λ (r : Record). prev_of r ≢ 0 → prev_of r < g.stamp.0) g.records
      → (nat_eq writer g.writer.0 ≡ false → AllByRecursion (λ (h : Group). is_struck_group writer length h ≡ true → stands_on g h ≡ false) hs) → AllByRecursion (Later g) hs
      → AllByRecursion (λ (h : Group). stands_on g h ≡ true → has (staying writer length) h ≡ true) hs
  whole_at gs [] g stays rise other later = tt
  whole_at gs (h ∷ hs) g stays rise other later =
      ((λ on. struck_stays g h stays rise (λ no. (other no).0) later.0 on (is_struck_group writer length h) refl), whole_at gs hs g stays rise (λ no. (other no).1) later.1)

  whole : (gs : List Group) → StampsRise gs → LogsRise gs → StrikesNoVersion writer length gs → IsWhole gs (staying writer length)
  whole gs stamps logs strikes =
      all_map (Facts gs) (λ (g : Group). has (staying writer length) g ≡ true → AllByRecursion (λ (h : Group). stands_on g h ≡ true → has (staying writer length) h ≡ true) gs)
      (λ g f stays. whole_at gs gs g stays f.0 f.1.0 f.1.1) gs
      (both_of (λ (g : Group). AllByRecursion (λ (r : Record). prev_of r ≢ 0 → prev_of r < g.stamp.0) g.records)
      (λ (g : Group). (nat_eq writer g.writer.0 ≡ false → AllByRecursion (λ (h : Group). is_struck_group writer length h ≡ true → stands_on g h ≡ false) gs) × AllByRecursion (Later g) gs) gs stamps
      (both_of (λ (g : Group). nat_eq writer g.writer.0 ≡ false → AllByRecursion (λ (h : Group). is_struck_group writer length h ≡ true → stands_on g h ≡ false) gs) (λ (g : Group). AllByRecursion (Later g) gs) gs
      strikes (in_order gs logs)))

  -- the groups that stay
  groups_staying : (entries : List Entry) → groups (closed writer length entries) ≡ filter (has (staying writer length)) (groups entries)
  groups_staying [] = refl
  groups_staying (e ∷ later) = by e.deed refl (is_struck writer length e.deed later) refl (groups_staying later)
    where
      by : (d : Deed) → e.deed ≡ d → (b : Bool) → is_struck writer length e.deed later ≡ b → groups (closed writer length later) ≡ filter (has (staying writer length)) (groups later)
          → groups (unless b e (closed writer length later)) ≡ filter (has (staying writer length)) (cons_option (group_of e.deed) (groups later))
      by (Reads w t key) is true struck rest = rest ∙ sym (ap (λ d. filter (has (staying writer length)) (cons_option (group_of d) (groups later))) is)
      by (Reads w t key) is false struck rest =
          ap (λ d. cons_option (group_of d) (groups (closed writer length later))) is ∙ rest
          ∙ sym (ap (λ d. filter (has (staying writer length)) (cons_option (group_of d) (groups later))) is)
      by (Logs g) is true struck rest =
          let out : is_struck writer length (Logs g) later ≡ true = ap (λ d. is_struck writer length d later) (sym is) ∙ struck in
          rest ∙ sym (ap (λ d. filter (has (staying writer length)) (cons_option (group_of d) (groups later))) is
          ∙ ap (λ b. cond (not b) (g ∷ filter (has (staying writer length)) (groups later)) (filter (has (staying writer length)) (groups later))) out)
      by (Logs g) is false struck rest =
          let kept : is_struck writer length (Logs g) later ≡ false = ap (λ d. is_struck writer length d later) (sym is) ∙ struck in
          ap (λ d. cons_option (group_of d) (groups (closed writer length later))) is ∙ ap (λ gs. g ∷ gs) rest
          ∙ sym (ap (λ d. filter (has (staying writer length)) (cons_option (group_of d) (groups later))) is
          ∙ ap (λ b. cond (not b) (g ∷ filter (has (staying writer length)) (groups later)) (filter (has (staying writer length)) (groups later))) kept)

  -- ---- no event of the writer stays behind a struck group

  abbrev pub Above : Group → Type 0
  Above g = nat_eq writer g.writer.0 ≡ true → length < g.seq

  above_at : (g : Group) → Above g → (b : Bool) → nat_eq writer g.writer.0 ≡ b → (b && nat_le g.seq length) ≡ false
  above_at g h true is = let less : length < g.seq = h is in let out : nat_le g.seq length ≡ false = grind (arith, nat_tests) in out
  above_at g h false is = refl

  keeps_none : (g : Group) → Above g → (nat_eq writer g.writer.0 && nat_le g.seq length && some_event (events_of g)) ≡ false
  keeps_none g h = ap (λ b. b && some_event (events_of g)) (above_at g h (nat_eq writer g.writer.0) refl)

  pub no_keeper : (entries : List Entry) → AllByRecursion Above (groups entries) → list_any (λ (e : Entry). keeps_reads writer length e.deed) entries ≡ false
  no_keeper [] h = refl
  no_keeper (e ∷ later) h = by e.deed h (no_keeper later)
    where
      by : (d : Deed) → AllByRecursion Above (cons_option (group_of d) (groups later)) → (AllByRecursion Above (groups later) → list_any (λ (x : Entry). keeps_reads writer length x.deed) later ≡ false)
          → (keeps_reads writer length d || list_any (λ (x : Entry). keeps_reads writer length x.deed) later) ≡ false
      by (Reads w t key) a rest = rest a
      by (Logs g) a rest = ap (λ b. b || list_any (λ (x : Entry). keeps_reads writer length x.deed) later) (keeps_none g a.0) ∙ rest a.1

  -- an event of a group has the group's mark
  pub record OfGroup (g : Group) (j : Event) : Type 0 where
    pub is : mark_of j ≡ mark g
    pub logged : is_logged j ≡ true

  pub of_group : (g : Group) (rs : List Record) → AllByRecursion (OfGroup g) (filter_map (event_of g) rs)
  of_group g [] = tt
  of_group g (change.RowSet page prev table row ∷ rs) = (record { is = refl; logged = refl }, of_group g rs)
  of_group g (change.Cut page prev at ∷ rs) = of_group g rs
  of_group g (change.Format page prev body ∷ rs) = of_group g rs
  of_group g (change.NodeAdd page prev key child ∷ rs) = of_group g rs
  of_group g (change.End t committed ∷ rs) = (record { is = refl; logged = refl }, of_group g rs)
  of_group g (change.Beat ∷ rs) = of_group g rs

  abbrev Foreign : Event → Type 0
  Foreign j = is_by writer j ≡ false

  foreign_group : (g : Group) → nat_eq writer g.writer.0 ≡ false → AllByRecursion Foreign (events_of g)
  foreign_group g h = all_map (OfGroup g) Foreign (λ j o. ap (λ (m : Mark). nat_eq writer m.writer) o.is ∙ h) (events_of g) (of_group g g.records)

  foreign_deed : (d : Deed) (later : List Entry) → AllByRecursion Above (cons_option (group_of d) (groups later)) → is_struck writer length d later ≡ false → AllByRecursion Foreign (events_in d)
  foreign_deed (Reads w t key) later a stays = by (nat_eq writer w.0) refl
    where
      by : (b : Bool) → nat_eq writer w.0 ≡ b → (nat_eq writer w.0 ≡ false) × Unit {0}
      by true is =
          absurd (let none = no_keeper later a in
          let some = not_is (list_any (λ (x : Entry). keeps_reads writer length x.deed) later) (ap (λ b. b && not (list_any (λ (x : Entry). keeps_reads writer length x.deed) later)) (sym is) ∙ stays) in
          cc (none, some))
      by false is = (is, tt)
  foreign_deed (Logs g) later a stays = by (nat_eq writer g.writer.0) refl
    where
      by : (b : Bool) → nat_eq writer g.writer.0 ≡ b → AllByRecursion Foreign (events_of g)
      by true is =
          absurd (let less : length < g.seq = a.0 is in
          let in_it : nat_le g.seq length ≡ true = not_is (nat_le g.seq length) (ap (λ b. b && not (nat_le g.seq length)) (sym is) ∙ stays) in
          let out : nat_le g.seq length ≡ false = grind (arith, nat_tests) in
          cc (in_it, out))
      by false is = foreign_group g is

  rest_above : (d : Deed) (later : List Entry) → AllByRecursion Above (cons_option (group_of d) (groups later)) → AllByRecursion Above (groups later)
  rest_above (Reads w t key) later a = a
  rest_above (Logs g) later a = a.1

  joined : (es fs : List Event) → AllByRecursion Foreign es → AllByRecursion Foreign fs → AllByRecursion Foreign (es ++ fs)
  joined [] fs a b = b
  joined (e ∷ es) fs a b = (a.0, joined es fs a.1 b)

  none_stays : (entries : List Entry) → AllByRecursion Above (groups entries) → AllByRecursion Foreign (events (closed writer length entries))
  none_stays [] h = tt
  none_stays (e ∷ later) h = by (is_struck writer length e.deed later) refl (none_stays later (rest_above e.deed later h))
    where
      by : (b : Bool) → is_struck writer length e.deed later ≡ b → AllByRecursion Foreign (events (closed writer length later)) → AllByRecursion Foreign (events (unless b e (closed writer length later)))
      by true is rest = rest
      by false is rest = joined (events_in e.deed) (events (closed writer length later)) (foreign_deed e.deed later h is) rest

  -- ---- what goes touches nothing that stays

  module _ (all : List Event) where
    -- what is known of an event with the mark of its entry
    record Fine (b : Bool) (kept : List Event) (x : Event) : Type 0 where
      pub inside : b ≡ true → IsIn (staying writer length) x
      pub outside : b ≡ false → is_in (staying writer length) x ≡ false
      pub none : b ≡ false → is_logged x ≡ true → TouchesNone all kept x

    each_fine : (b : Bool) (xs : List Event) (ms : List (Marked Event)) → AllByRecursion (Fine b (kept_of ms)) xs → NoCauseGoes all (staying writer length) ms
        → NoCauseGoes all (staying writer length) (each_marked b xs ms)
    each_fine b [] ms h rest = rest
    each_fine true (x ∷ xs) ms h rest = (h.0.inside, h.0.outside, (λ no_. absurd (cc no_)), each_fine true xs ms h.1 rest)
    each_fine false (x ∷ xs) ms h rest =
        (h.0.inside, h.0.outside, (λ no_ logged. subst (λ es. TouchesNone all es x) (sym (struck_each xs ms)) (h.0.none no_ logged)), each_fine false xs ms h.1 rest)

    touch_none : (i : Event) (js : List Event) → AllByRecursion Foreign js → AllByRecursion (λ (j : Event). is_by writer j ≡ false → touches all i j ≡ false) js → TouchesNone all js i
    touch_none i [] f h = tt
    touch_none i (j ∷ js) f h = ((λ t. cc (t, h.0 f.0)), touch_none i js f.1 h.1)

    group_fine : (g : Group) (later : List Entry) (xs : List Event) → AllByRecursion (OfGroup g) xs
        → (nat_eq writer g.writer.0 && not (nat_le g.seq length) ≡ true → AllByRecursion Foreign (events (closed writer length later)))
        → (nat_eq writer g.writer.0 && not (nat_le g.seq length) ≡ true
        → AllByRecursion (λ (i : Event). AllByRecursion (λ (j : Event). is_by writer j ≡ false → touches all i j ≡ false) (events (closed writer length later))) xs)
        → AllByRecursion (Fine (not (nat_eq writer g.writer.0 && not (nat_le g.seq length))) (events (closed writer length later))) xs
    group_fine g later [] of foreign none = tt
    group_fine g later (x ∷ xs) of foreign none = (
      record {
        inside = λ is logged. ap (staying writer length) of.0.is ∙ is;
        outside = λ is. ap (λ b. b && staying writer length (mark_of x)) of.0.logged ∙ ap (staying writer length) of.0.is ∙ is;
        none = λ is logged. (let struck = not_is (nat_eq writer g.writer.0 && not (nat_le g.seq length)) is in touch_none x (events (closed writer length later)) (foreign struck) (none struck).0);
      },
      group_fine g later xs of.1 foreign (λ struck. (none struck).1),
    )

    deed_fine : (d : Deed) (later : List Entry) → LogsRise (cons_option (group_of d) (groups later))
        → (is_struck writer length d later ≡ true
        → AllByRecursion (λ (i : Event). AllByRecursion (λ (j : Event). is_by writer j ≡ false → touches all i j ≡ false) (events (closed writer length later))) (events_in d))
        → AllByRecursion (Fine (not (is_struck writer length d later)) (events (closed writer length later))) (events_in d)
    deed_fine (Reads w t key) later logs none = (record { inside = λ is logged. absurd (cc logged); outside = λ is. refl; none = λ is logged. absurd (cc logged) }, tt)
    deed_fine (Logs g) later logs none =
        group_fine g later (events_of g) (of_group g g.records)
        (λ struck. none_stays later (all_map (λ (h : Group). nat_eq g.writer.0 h.writer.0 ≡ true → (g.seq < h.seq) × (g.stamp.0 < h.stamp.0)) Above
        (λ h f own. (let both = and_parts (nat_eq writer g.writer.0) (not (nat_le g.seq length)) struck in
        let above : nat_le g.seq length ≡ false = not_no (nat_le g.seq length) both.1 in
        let same : nat_eq g.writer.0 h.writer.0 ≡ true = grind (arith, nat_tests) in
        let less : g.seq < h.seq = (f same).0 in
        let more : length < g.seq = grind (arith, nat_tests) in
        omega (arith, less, more))) (groups later) logs.0))
        none

    pub rest_rise : (d : Deed) (gs : List Group) → LogsRise (cons_option (group_of d) gs) → LogsRise gs
    rest_rise (Reads w t key) gs h = h
    rest_rise (Logs g) gs h = h.1

    marks_fine : (entries : List Entry) → LogsRise (groups entries) → StrikesNoCause all writer length entries
        → NoCauseGoes all (staying writer length) (marked_events (marks writer length entries))
    marks_fine [] logs none = tt
    marks_fine (e ∷ later) logs none =
        let kept : kept_of (marked_events (marks writer length later)) ≡ events (closed writer length later) =
        kept_events (marks writer length later) ∙ ap events (kept_marks writer length later) in
        each_fine (not (is_struck writer length e.deed later)) (events_in e.deed) (marked_events (marks writer length later))
        (subst (λ es. AllByRecursion (Fine (not (is_struck writer length e.deed later)) es) (events_in e.deed)) (sym kept) (deed_fine e.deed later logs none.0))
        (marks_fine later (rest_rise e.deed (groups later) logs) none.1)

-- ---- all premises

pages_kept : (ms : List (Marked Entry)) → BoundsOrderPages (all_of ms) → BoundsOrderPages (kept_of ms)
pages_kept ms h = record {
  own = all_kept (λ (e : Entry). HasOwn e.bound e.deed) ms h.own;
  rise = all_map (λ (e : Entry). AllByRecursion (λ (i : Entry). stands e.deed i.deed ≡ true → AtMost i.bound e.bound) (all_of ms))
      (λ (e : Entry). AllByRecursion (λ (i : Entry). stands e.deed i.deed ≡ true → AtMost i.bound e.bound) (kept_of ms))
      (λ e a. all_kept (λ (i : Entry). stands e.deed i.deed ≡ true → AtMost i.bound e.bound) ms a) (kept_of ms)
      (all_kept (λ (e : Entry). AllByRecursion (λ (i : Entry). stands e.deed i.deed ≡ true → AtMost i.bound e.bound) (all_of ms)) ms h.rise);
}

pub close_keeps : ClosesKeepPremises
close_keeps entries writer length h logs none versions =
    let ms : List (Marked Entry) = marks writer length entries in
    let all_is : all_of ms ≡ entries = all_marks writer length entries in
    let kept_is : kept_of ms ≡ closed writer length entries = kept_marks writer length entries in
    let gs_is : groups (closed writer length entries) ≡ filter (has (staying writer length)) (groups entries) = groups_staying writer length entries in
    let events_are : all_of (marked_events ms) ≡ events entries = all_events ms ∙ ap events all_is in (
      record {
        fit = subst AllFit (sym gs_is) (part_fit (groups entries) (staying writer length) h.fit (whole writer length (groups entries) h.stamps logs versions));
        stamps = subst StampsRise (sym gs_is) (all_filter (λ (g : Group). AllByRecursion (λ (r : Record). prev_of r ≢ 0 → prev_of r < g.stamp.0) g.records) (has (staying writer length)) (groups entries) h.stamps);
        pages = subst BoundsOrderPages kept_is (pages_kept ms (subst BoundsOrderPages (sym all_is) h.pages));
        touches = subst BoundsOrderTouches kept_is (touches_kept ms (subst BoundsOrderTouches (sym all_is) h.touches));
        clean = subst IsClean (kept_events ms ∙ ap events kept_is)
            (stays_clean (staying writer length) (marked_events ms) (subst IsClean (sym events_are) h.clean)
            (subst (λ es. NoCauseGoes es (staying writer length) (marked_events ms)) (sym events_are) (marks_fine writer length (events entries) entries logs none)));
      },
      subst LogsRise (sym gs_is) (logs_rise (has (staying writer length)) (groups entries) logs),
    )
