-- A part of a clean list is clean if it has all that touches what it has.
use Rattle.std.proofs.Common.{◌≡◌, ◌⊎◌, ℕ, Bool, true, false, cond, ◌||◌, List, [], ◌∷◌, inl, inr, refl, sym, subst, ap, ◌∙◌}
use Rattle.std.proofs.lemmas.Bool.{and_left, cases_Bool}
use Rattle.std.specs.List.{AllByRecursion, list_any, cons_option}
use Rattle.std.specs.declared.option.Option.{Option}
use Rattle.std.specs.declared.option.Option.TheVariants.{None}
use Rattle.tm_data.specs.declared.transaction.Txn.{Txn}
use Rattle.tm_data.specs.declared.transaction.Writer.{Writer}
use Rattle.tm_data.specs.declared.transaction.Stamp.{Stamp}
use Rattle.tm_data.specs.declared.row_map.RowKey.{RowKey}
use Rattle.key_model.specs.declared.events.Event.{Event}
use Rattle.key_model.specs.declared.events.EventKind.{EventKind}
use Rattle.key_model.specs.declared.events.EventKind.TheVariants.{Read, Put, End}
use Rattle.key_model.specs.Steps.{row_of}
use Rattle.key_model.specs.Events.{logs, ends, is_logged, is_of, is_by, is_end_of, has_end}
use Rattle.key_model.specs.Causes.{touches}
use Rattle.key_model.specs.Cuts.{Cut, is_in, mark_of, IsIn, Written, written, puts_on, wrote, wrote_last, Restores}
use Rattle.key_model.specs.Clean.{IsOpen, MayEnd, IsOver, MayPut, MayFollow, CleanFrom, IsClean}
use Rattle.key_model.proofs.EventLemmas.{onto, any_onto, all_map, none_kept, is_put_on, put_touches}
use Rattle.key_model.proofs.FoldLemmas.{kept, AllHaveCauses, in_from, PutsAreIn, all_puts, Here, over_kept, end_here, put_on}
use Rattle.history_laws.proofs.KeptLists.{Marked, marked, all_of, kept_of}

-- ---- a part of the past

-- A part of the past that has the logged events of the cut, and no others.
pub record IsPart (cut : Cut) (past part : List Event) : Type 0 where
  pub puts : (key : RowKey) → puts_on key part ≡ puts_on key (kept cut past)
  pub ends : (t : Txn) → has_end t part ≡ has_end t (kept cut past)
  pub own : (t : Txn) (actor : ℕ) → AllByRecursion (λ e. is_of t e ≡ true → is_by actor e ≡ true) past → AllByRecursion (λ e. is_of t e ≡ true → is_by actor e ≡ true) part

unlogged_puts : (key : RowKey) (kind : EventKind) → logs kind ≡ false → written key kind ≡ None
unlogged_puts key (Read t table k) h = refl
unlogged_puts key (Put t table k x) h = absurd (cc h)
unlogged_puts key (End t committed) h = absurd (cc h)

unlogged_ends : (t : Txn) (kind : EventKind) → logs kind ≡ false → ends t kind ≡ false
unlogged_ends t (Read u table k) h = refl
unlogged_ends t (Put u table k x) h = absurd (cc h)
unlogged_ends t (End u committed) h = absurd (cc h)

-- one event more, which stays
part_in : (cut : Cut) (e : Event) (past part : List Event) → IsIn cut e → IsPart cut past part → IsPart cut (e ∷ past) (e ∷ part)
part_in cut e past part inside p = by (cases_Bool (is_logged e))
  where
    by : (is_logged e ≡ true) ⊎ (is_logged e ≡ false) → IsPart cut (e ∷ past) (e ∷ part)
    by (inl logged) =
        let is : is_in cut e ≡ true = in_from cut e logged inside in
        record {
          puts = λ key. ap (cons_option (written key e.kind)) (p.puts key) ∙ sym (ap (λ b. puts_on key (cond b (e ∷ kept cut past) (kept cut past))) is);
          ends = λ t. ap (λ b. is_end_of t e || b) (p.ends t) ∙ sym (ap (λ b. has_end t (cond b (e ∷ kept cut past) (kept cut past))) is);
          own = λ t actor h. (h.0, p.own t actor h.1);
        }
    by (inr unlogged) =
        let is : is_in cut e ≡ false = and_left (is_logged e) (cut (mark_of e)) unlogged in
        record {
          puts = λ key. ap (λ o. cons_option o (puts_on key part)) (unlogged_puts key e.kind unlogged) ∙ p.puts key ∙ sym (ap (λ b. puts_on key (cond b (e ∷ kept cut past) (kept cut past))) is);
          ends = λ t. ap (λ b. b || has_end t part) (unlogged_ends t e.kind unlogged) ∙ p.ends t ∙ sym (ap (λ b. has_end t (cond b (e ∷ kept cut past) (kept cut past))) is);
          own = λ t actor h. (h.0, p.own t actor h.1);
        }

-- one that goes
part_out : (cut : Cut) (e : Event) (past part : List Event) → is_in cut e ≡ false → IsPart cut past part → IsPart cut (e ∷ past) part
part_out cut e past part out p = record {
  puts = λ key. p.puts key ∙ sym (ap (λ b. puts_on key (cond b (e ∷ kept cut past) (kept cut past))) out);
  ends = λ t. p.ends t ∙ sym (ap (λ b. has_end t (cond b (e ∷ kept cut past) (kept cut past))) out);
  own = λ t actor h. p.own t actor h.1;
}

-- ---- an event that stays may follow the part

over_part : (cut : Cut) (past part : List Event) → IsPart cut past part → (ws : List Written) → IsOver (kept cut past) ws → IsOver part ws
over_part cut past part p [] h = tt
over_part cut past part p (w ∷ ws) (inl ended) = inl (p.ends w.txn ∙ ended)
over_part cut past part p (w ∷ ws) (inr restored) = inr restored

module _ (events : List Event) (cut : Cut) (past part : List Event) (p : IsPart cut past part) (a : Writer) (q : ℕ) (s : Stamp) where
  abbrev now : EventKind → Event
  now kind = record { actor = a; seq = q; stamp = s; kind = kind }

  still_open : (t : Txn) → IsOpen t past → IsOpen t part
  still_open t h = p.ends t ∙ none_kept (is_end_of t) (is_in cut) past h

  may_put : (t : Txn) (table : ℕ) (k : List ℕ) (x : Option (List ℕ)) → MayPut past t (row_of table k) → Here events cut past (now (Put t table k x)) → MayPut part t (row_of table k)
  may_put t table k x may here =
      let key : RowKey = row_of table k in
      let mine : Written = record { txn = t; value = x } in
      let agree : puts_on key part ≡ puts_on key past =
      p.puts key
      ∙ all_puts cut key past
      (all_map (λ i. touches events i (now (Put t table k x)) ≡ true → IsIn cut i) (PutsAreIn cut key)
      (λ i h v is. let put = is_put_on key i.kind v is in
      in_from cut i put.logged (h (put_touches events key i (now (Put t table k x)) v mine put (put_on events cut past a q s t table k x)))) past here.causes) in
      record {
        open_ = still_open t may.open_;
        together = subst (λ vs. wrote t vs ≡ true → wrote_last t vs ≡ true) (sym agree) may.together;
        over = λ h. over_part cut past part p (puts_on key part)
            (over_kept events cut past a q s t table k x here (puts_on key part) (sym agree) (subst (IsOver past) (sym agree) (may.over (ap (wrote_last t) (sym agree) ∙ h))));
      }

  may_end : (t : Txn) (committed : Bool) → MayEnd past a.0 t committed → Here events cut past (now (End t committed)) → MayEnd part a.0 t committed
  may_end t committed may here = record {
    once = still_open t may.once;
    own = p.own t a.0 may.own;
    last = λ key h. ap (wrote_last t) (p.puts key) ∙ (end_here events cut past a q s key t committed may here (ap (wrote t) (sym (p.puts key)) ∙ h)).last;
    undone = λ no key h. subst (Restores t) (sym (p.puts key)) ((end_here events cut past a q s key t committed may here (ap (wrote t) (sym (p.puts key)) ∙ h)).undone no);
  }

  pub may_still : (kind : EventKind) → MayFollow past a.0 kind → Here events cut past (now kind) → MayFollow part a.0 kind
  may_still (Read t table k) may here = still_open t may
  may_still (Put t table k x) may here = may_put t table k x may here
  may_still (End t committed) may here = may_end t committed may here

-- ---- all events

-- A logged event that goes touches none of those after it that stay.
abbrev pub TouchesNone : List Event → List Event → Event → Type 0
TouchesNone events later i = AllByRecursion (λ j. touches events i j ≡ true → ⊥) later

abbrev pub NoCauseGoes : List Event → Cut → List (Marked Event) → Type 0
NoCauseGoes events cut [] = Unit {0}
NoCauseGoes events cut (m ∷ ms) =
    (m.stays ≡ true → IsIn cut m.item) × (m.stays ≡ false → is_in cut m.item ≡ false) × (m.stays ≡ false → is_logged m.item ≡ true → TouchesNone events (kept_of ms) m.item) × NoCauseGoes events cut ms

-- What went before touches nothing that stays.
abbrev pub Gone : List Event → Cut → List Event → List Event → Type 0
Gone events cut later past = AllByRecursion (λ i. is_logged i ≡ true → cut (mark_of i) ≡ false → TouchesNone events later i) past

in_or : (b : Bool) → (b ≡ false → ⊥) → b ≡ true
in_or true h = refl
in_or false h = absurd (h refl)

module _ (events : List Event) (cut : Cut) (e : Event) (later past part : List Event) where
  causes_here : Gone events cut (e ∷ later) past → AllByRecursion (λ i. touches events i e ≡ true → IsIn cut i) past
  causes_here gone =
      all_map (λ i. is_logged i ≡ true → cut (mark_of i) ≡ false → TouchesNone events (e ∷ later) i) (λ i. touches events i e ≡ true → IsIn cut i)
      (λ i h t logged. in_or (cut (mark_of i)) (λ out. (h logged out).0 t)) past gone

  gone_on : Gone events cut (e ∷ later) past → Gone events cut later past
  gone_on gone =
      all_map (λ i. is_logged i ≡ true → cut (mark_of i) ≡ false → TouchesNone events (e ∷ later) i) (λ i. is_logged i ≡ true → cut (mark_of i) ≡ false → TouchesNone events later i)
      (λ i h logged out. (h logged out).1) past gone

abbrev StaysClean : List Event → Cut → List (Marked Event) → Type 0
StaysClean events cut ms =
    (past part : List Event) → events ≡ onto past (all_of ms)
    → CleanFrom past (all_of ms) → AllHaveCauses events cut past → IsPart cut past part → Gone events cut (kept_of ms) past → NoCauseGoes events cut ms
    → CleanFrom part (kept_of ms)

one_stays : (events : List Event) (cut : Cut) (e : Event) (ms : List (Marked Event)) → StaysClean events cut ms → StaysClean events cut (marked true e ∷ ms)
one_stays events cut e ms rest past part split clean causes p gone none =
    let here : AllByRecursion (λ i. touches events i e ≡ true → IsIn cut i) past = causes_here events cut e (kept_of ms) past part gone in
    let inside : IsIn cut e = none.0 refl in (
      may_still events cut past part p e.actor e.seq e.stamp e.kind clean.0
          (record { causes = here; all = causes; sub = λ q h. subst (λ es. list_any q es ≡ true) (sym split) (any_onto q past (e ∷ all_of ms) h) }),
      rest (e ∷ past) (e ∷ part) split clean.1 ((λ _. here), causes) (part_in cut e past part inside p)
          ((λ logged out. absurd (cc (inside logged, out))), gone_on events cut e (kept_of ms) past part gone) none.3,
    )

one_goes : (events : List Event) (cut : Cut) (e : Event) (ms : List (Marked Event)) → StaysClean events cut ms → StaysClean events cut (marked false e ∷ ms)
one_goes events cut e ms rest past part split clean causes p gone none =
    rest (e ∷ past) part split clean.1 ((λ is. absurd (cc (is, none.1 refl))), causes) (part_out cut e past part (none.1 refl) p)
    ((λ logged out. none.2 refl logged), gone) none.3

part_clean : (events : List Event) (cut : Cut) (ms : List (Marked Event)) → StaysClean events cut ms
part_clean events cut [] = λ past part split clean causes p gone none. tt
part_clean events cut (m ∷ ms) = by m.stays (part_clean events cut ms)
  where
    by : (b : Bool) → StaysClean events cut ms → StaysClean events cut (marked b m.item ∷ ms)
    by true rest = one_stays events cut m.item ms rest
    by false rest = one_goes events cut m.item ms rest

pub stays_clean : (cut : Cut) (ms : List (Marked Event)) → IsClean (all_of ms) → NoCauseGoes (all_of ms) cut ms → IsClean (kept_of ms)
stays_clean cut ms clean none =
    part_clean (all_of ms) cut ms [] [] refl clean tt (record { puts = λ key. refl; ends = λ t. refl; own = λ t actor h. tt }) tt none
