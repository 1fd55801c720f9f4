-- The places of one event more.
use Rattle.std.proofs.Common.{◌≡◌, ℕ, ◌+◌, Bool, true, false, cond, ◌&&◌, ◌||◌, List, [], ◌∷◌, ◌++◌, length, take, refl, sym, ap, ◌∙◌}
use Rattle.std.specs.Prelude.{slice_get}
use Rattle.std.specs.List.{list_any}
use Rattle.std.specs.Ordering.{eq_by_cmp}
use Rattle.std.proofs.lemmas.List.Folds.{list_any-append}
use Rattle.std.proofs.Math.Seq.{take-length}
use Rattle.std.specs.FinMap as fin
use Rattle.std.specs.declared.option.Option.{Option}
use Rattle.std.specs.declared.option.Option.TheVariants.{None, Some}
use Rattle.tm_data.specs.declared.transaction.Txn.{Txn}
use Rattle.tm_data.specs.Orders.{txn_cmp, txn_cmp-total, txn_cmp-exact}
use Rattle.key_model.specs.declared.events.Event.{Event}
use Rattle.key_model.specs.declared.events.EventKind.{EventKind}
use Rattle.key_model.specs.declared.events.EventKind.TheVariants.{Read, Put, End}
use Rattle.key_model.specs.After.{same_txn}
use Rattle.key_model.specs.Events.{is_of}
use Rattle.key_index.proofs.AnyLemmas.{equal}
use Rattle.event_cuts.specs.Places.{txn_of, PlaceMap, or_none, with_place, passes, any_at, HasPlaces}
use Rattle.event_cuts.proofs.PutLemmas.{same_one}

or_false : (a : Bool) → (a || false) ≡ a
or_false true = refl
or_false false = refl

of_is : (t : Txn) (e : Event) → is_of t e ≡ same_txn t (txn_of e.kind)
of_is t e = by e.kind refl
  where
    by : (k : EventKind) → e.kind ≡ k → is_of t e ≡ same_txn t (txn_of k)
    by (Read u table key) is = ap (λ x. is_of t (record e { kind = x })) is
    by (Put u table key value) is = ap (λ x. is_of t (record e { kind = x })) is
    by (End u committed) is = ap (λ x. is_of t (record e { kind = x })) is

any_last : (p : Event → Bool) (events : List Event) (places : List ℕ) (i : ℕ) → any_at p events (places ++ i ∷ []) ≡ (any_at p events places || passes p (slice_get events i))
any_last p events [] i = or_false (passes p (slice_get events i))
any_last p events (x ∷ xs) i = ap (λ b. passes p (slice_get events x) || b) (any_last p events xs i) ∙ by (passes p (slice_get events x)) (any_at p events xs) (passes p (slice_get events i))
  where
    by : (a b c : Bool) → (a || (b || c)) ≡ ((a || b) || c)
    by true b c = refl
    by false b c = refl

pub none_yet : (events : List Event) (m : PlaceMap) → m ≡ fin.empty → HasPlaces events 0 m
none_yet events m is p t = ap (λ n. any_at p events (or_none (fin.get n t))) is ∙ ap (λ o. any_at p events (or_none o)) (fin.get-empty txn_cmp t)

pub one_more : (events : List Event) (m next : PlaceMap) (n : ℕ) (e : Event) → HasPlaces events n m → slice_get events n ≡ Some e → take (n + 1) events ≡ take n events ++ e ∷ []
    → next ≡ with_place m (txn_of e.kind) n → HasPlaces events (n + 1) next
one_more events m next n e h here more new p t =
    ap (λ k. any_at p events (or_none (fin.get k t))) new
    ∙ ap (λ o. any_at p events (or_none o)) (fin.get-insert txn_cmp-total (fin.remove m own) own places t)
    ∙ by (eq_by_cmp txn_cmp t own) refl
    ∙ sym (ap (list_any test) more ∙ list_any-append test (take n events) (e ∷ []))
  where
    own : Txn
    own = txn_of e.kind

    places : List ℕ
    places = or_none (fin.get m own) ++ n ∷ []

    test : Event → Bool
    test x = is_of t x && p x

    by : (b : Bool) → eq_by_cmp txn_cmp t own ≡ b
        → any_at p events (or_none (cond b (Some places) (fin.get (fin.remove m own) t))) ≡ (list_any test (take n events) || (test e || false))
    by true same =
        let mine : is_of t e ≡ true = of_is t e ∙ sym (same_one t own) ∙ same in
        any_last p events (or_none (fin.get m own)) n
        ∙ ap (λ o. any_at p events (or_none (fin.get m own)) || passes p o) here
        ∙ ap (λ b. b || p e) (h p own ∙ ap (λ u. list_any (λ x. is_of u x && p x) (take n events)) (sym (equal txn_cmp-total txn_cmp-exact t own same)))
        ∙ ap (λ b. list_any test (take n events) || b) (sym (or_false (test e) ∙ ap (λ b. b && p e) mine))
    by false other =
        let foreign : is_of t e ≡ false = of_is t e ∙ sym (same_one t own) ∙ other in
        ap (λ o. any_at p events (or_none o)) (fin.get-remove txn_cmp-total m own t ∙ ap (λ b. cond b None (fin.get m t)) other)
        ∙ h p t ∙ sym (ap (λ b. list_any test (take n events) || ((b && p e) || false)) foreign ∙ or_false (list_any test (take n events)))

-- where the places are those of all events, a look at a transaction's tells of all
pub whole : (events : List Event) (m : PlaceMap) → HasPlaces events (length events) m → (p : Event → Bool) (t : Txn) (o : Option (List ℕ)) → o ≡ fin.get m t
    → any_at p events (or_none o) ≡ list_any (λ e. is_of t e && p e) events
whole events m h p t o is = ap (λ x. any_at p events (or_none x)) is ∙ h p t ∙ ap (list_any (λ e. is_of t e && p e)) (take-length events)
