-- Places and their values.
use Rattle.std.specs.Prelude.{◌≡◌, ℕ, List, [], ◌∷◌, Bool, true, false, cond, T, Some, None, IsSome, is_some}
use Rattle.std.proofs.Common.{refl, sym, ◌∙◌, ap, subst}
use Rattle.std.specs.declared.cmp.Ordering.{Ordering}
use Rattle.std.specs.declared.cmp.Ordering.TheVariants.{Less, Equal, Greater}
use Rattle.std.specs.declared.option.Option.{Option}
use Rattle.std.specs.List.{AllByRecursion}
use Rattle.std.specs.List.Sorted.{IsStrictlySortedBy}
use Rattle.std.specs.Map.{keys_of}
use Rattle.std.specs.Ordering.{eq_by_cmp, is_eq, is_lt}
use Rattle.std.specs.FinMap.{FinMap, entries, entries_sorted, find, get, insert, remove, get-insert, get-remove, is_sorted}
use Rattle.std.specs.FinMap.Entries.{below_all}
use Rattle.tm_data.specs.declared.row_map.RowKey.{RowKey}
use Rattle.tm_data.specs.Orders.{row_cmp, row_cmp-total, row_cmp-exact}
use Rattle.tm_data.specs.Maps.{entries-from_entries}
use Rattle.key_model.specs.Inside.{keep, kept, valued, HasPlace, HasPlaces}
use Rattle.key_model.specs.Steps.{or_mapped}
use Rattle.key_model.specs.After.{with_written, with_all}
use Rattle.key_index.proofs.AnyLemmas as any
use Rattle.key_index.proofs.AnyLemmas.{none_below, first_of_both, second_of_both, true_or_false, not_both, less_not_equal}
use Rattle.key_model.proofs.PlaceLemmas as generic
use Rattle.key_model.proofs.PlaceLemmas.{or_gone}

abbrev Cells : Type 0
Cells = FinMap row_cmp (Option (List ℕ))

equal : (x y : RowKey) → eq_by_cmp row_cmp x y ≡ true → x ≡ y
equal = any.equal row_cmp-total row_cmp-exact

itself : (x : RowKey) → eq_by_cmp row_cmp x x ≡ true
itself = any.itself row_cmp-total row_cmp-exact

pub get-valued : (m : Cells) (q : RowKey) → get (valued m) q ≡ or_gone (get m q)
get-valued = generic.get-valued row_cmp-total row_cmp-exact

abbrev pub HasMore : Cells → Cells → Type 0
HasMore m n = (q : RowKey) → IsSome (get m q) → IsSome (get n q)

-- the places are still there after more came
pub places-more : (m n : Cells) → HasMore m n → (es : List (RowKey × Option (List ℕ))) → HasPlaces m es → HasPlaces n es
places-more m n more [] h = tt
places-more m n more (e ∷ es) h = (by e.1 h.0, places-more m n more es h.1)
  where
    by : (o : Option (List ℕ)) → HasPlace m e.0 o → HasPlace n e.0 o
    by None h = tt
    by (Some v) h = more e.0 h

-- and after one below all of them went
pub places-remove : (m : Cells) (k : RowKey) (es : List (RowKey × Option (List ℕ))) → T (below_all row_cmp k es) → HasPlaces m es → HasPlaces (remove m k) es
places-remove m k [] s h = tt
places-remove m k (e ∷ es) s h = (by e.1 h.0, places-remove m k es (second_of_both _ _ s) h.1)
  where
    kept_here : get (remove m k) e.0 ≡ get m e.0
    kept_here = get-remove row_cmp-total m k e.0 ∙ ap (λ b. cond b None (get m e.0)) (not_tied e.0 k (first_of_both _ _ s))
      where
        not_tied : (x y : RowKey) → T (is_lt (row_cmp y x)) → eq_by_cmp row_cmp x y ≡ false
        not_tied x y below = true_or_false _ (λ same. not_both _ (ap (λ z. is_eq (row_cmp y z)) (equal x y same) ∙ itself y) (less_not_equal (row_cmp y x) below))

    by : (o : Option (List ℕ)) → HasPlace m e.0 o → HasPlace (remove m k) e.0 o
    by None h = tt
    by (Some v) h = subst IsSome (sym kept_here) h

-- ---- what a map has after all writes

pub get-with_all : (map : FinMap row_cmp (List ℕ)) (es : List (RowKey × Option (List ℕ))) → T (is_sorted row_cmp es) → (q : RowKey)
    → get (with_all map es) q ≡ or_mapped (find row_cmp q es) (get map q)
get-with_all map [] s q = refl
get-with_all map (e ∷ es) s q =
    get-with_all (with_written map e.0 e.1) es (second_of_both _ _ s) q ∙ ap (or_mapped (find row_cmp q es)) (one e.1) ∙ by (eq_by_cmp row_cmp q e.0) refl
  where
    one : (o : Option (List ℕ)) → get (with_written map e.0 o) q ≡ cond (eq_by_cmp row_cmp q e.0) o (get map q)
    one None = get-remove row_cmp-total map e.0 q
    one (Some v) = get-insert row_cmp-total map e.0 v q

    by : (b : Bool) → eq_by_cmp row_cmp q e.0 ≡ b → or_mapped (find row_cmp q es) (cond b e.1 (get map q)) ≡ or_mapped (cond b (Some e.1) (find row_cmp q es)) (get map q)
    by true same =
        ap (λ o. or_mapped o e.1) (ap (λ k. find row_cmp k es) (equal q e.0 same) ∙ none_below row_cmp-total row_cmp-exact e.0 es (first_of_both _ _ s))
    by false same = refl

-- ---- the loops over places

pub reserve_turn : (m next was : Cells) (its rest all : List (RowKey × Option (List ℕ))) (k : RowKey) (o : Option (List ℕ))
    → its ≡ (k, o) ∷ rest → next ≡ insert m k None → get m k ≡ None → valued m ≡ valued was
    → ((n : Cells) → HasMore m n → HasPlaces n its → HasPlaces n all)
    → (valued next ≡ valued was) × ((n : Cells) → HasMore next n → HasPlaces n rest → HasPlaces n all)
reserve_turn m next was its rest all k o is new none same inv = (
  ap valued new ∙ generic.valued-place row_cmp-total row_cmp-exact m k none ∙ same,
  λ n more places. inv n (λ q h. more q (subst (λ x. IsSome (get x q)) (sym new) (generic.more-insert row_cmp-total row_cmp-exact m k None q h)))
      (subst (HasPlaces n) (sym is) (by n o (more k (subst (λ x. IsSome (get x k)) (sym new) (generic.place-insert row_cmp-total row_cmp-exact m k None))), places)),
)
  where
    by : (n : Cells) (o : Option (List ℕ)) → IsSome (get n k) → HasPlace n k o
    by n None h = tt
    by n (Some v) h = h

pub place_there : (m : Cells) (its rest : List (RowKey × Option (List ℕ))) (k : RowKey) (o : Option (List ℕ)) → its ≡ (k, o) ∷ rest → HasPlaces m its → is_some o ≡ true → get m k ≡ None → ⊥
place_there m its rest k None is places some none = not_both false some refl
place_there m its rest k (Some v) is places some none =
    let here : IsSome (get m k) = (subst (HasPlaces m) is places).0 in
    not_both false (sym (ap is_some none) ∙ here) refl

pub enter_turn : (m next : Cells) (its rest : List (RowKey × Option (List ℕ))) (k : RowKey) (o : Option (List ℕ)) (target : FinMap row_cmp (List ℕ))
    → its ≡ (k, o) ∷ rest → T (is_sorted row_cmp its) → HasPlaces m its → with_all (valued m) its ≡ target → is_some o ≡ true → next ≡ insert m k o
    → T (is_sorted row_cmp rest) × HasPlaces next rest × (with_all (valued next) rest ≡ target)
enter_turn m next its rest k None target is sorted places same some new = absurd (not_both false some refl)
enter_turn m next its rest k (Some v) target is sorted places same some new = (
  second_of_both _ _ (subst (λ es. T (is_sorted row_cmp es)) is sorted),
  subst (λ n. HasPlaces n rest) (sym new) (places-more m (insert m k (Some v)) (generic.more-insert row_cmp-total row_cmp-exact m k (Some v)) rest (subst (HasPlaces m) is places).1),
  ap (λ n. with_all (valued n) rest) new ∙ ap (λ x. with_all x rest) (generic.valued-insert row_cmp-total row_cmp-exact m k v) ∙ ap (with_all (valued m)) (sym is) ∙ same,
)

pub leave_turn : (m next : Cells) (its rest : List (RowKey × Option (List ℕ))) (k : RowKey) (o : Option (List ℕ)) (target : FinMap row_cmp (List ℕ))
    → its ≡ (k, o) ∷ rest → T (is_sorted row_cmp its) → HasPlaces m its → with_all (valued m) its ≡ target → is_some o ≡ false → next ≡ remove m k
    → T (is_sorted row_cmp rest) × HasPlaces next rest × (with_all (valued next) rest ≡ target)
leave_turn m next its rest k (Some v) target is sorted places same some new = absurd (not_both true refl some)
leave_turn m next its rest k None target is sorted places same some new =
    let order : T (is_sorted row_cmp ((k, None) ∷ rest)) = subst (λ es. T (is_sorted row_cmp es)) is sorted in (
      second_of_both _ _ order,
      subst (λ n. HasPlaces n rest) (sym new) (places-remove m k rest (first_of_both _ _ order) (subst (HasPlaces m) is places).1),
      ap (λ n. with_all (valued n) rest) new ∙ ap (λ x. with_all x rest) (generic.valued-remove row_cmp-total row_cmp-exact m k) ∙ ap (with_all (valued m)) (sym is) ∙ same,
    )

-- ---- the entries of the map

is_less : (r : Ordering) → T (is_lt r) → r ≡ Less
is_less Less h = refl
is_less Equal h = absurd h
is_less Greater h = absurd h

below_kept : (k : RowKey) (es : List (RowKey × Option (List ℕ))) → T (below_all row_cmp k es) → AllByRecursion (λ q. row_cmp k q ≡ Less) (keys_of (kept es))
below_kept k [] h = tt
below_kept k (e ∷ es) h = by e.1 (below_kept k es (second_of_both _ _ h))
  where
    by : (o : Option (List ℕ)) → AllByRecursion (λ q. row_cmp k q ≡ Less) (keys_of (kept es)) → AllByRecursion (λ q. row_cmp k q ≡ Less) (keys_of (keep e.0 o (kept es)))
    by None rest = rest
    by (Some v) rest = (is_less (row_cmp k e.0) (first_of_both _ _ h), rest)

sorted_kept : (es : List (RowKey × Option (List ℕ))) → T (is_sorted row_cmp es) → IsStrictlySortedBy row_cmp (keys_of (kept es))
unfolding IsStrictlySortedBy
sorted_kept [] h = tt
sorted_kept (e ∷ es) h =
    elim e.1 as (λ o. IsStrictlySortedBy row_cmp (keys_of (keep e.0 o (kept es)))) [
      | None ↦ sorted_kept es (second_of_both _ _ h)
      | Some v ↦ (below_kept e.0 es (first_of_both _ _ h), sorted_kept es (second_of_both _ _ h))
    ]

pub entries-valued : (m : Cells) → entries (valued m) ≡ kept (entries m)
entries-valued m = entries-from_entries row_cmp-total (kept (entries m)) (sorted_kept (entries m) (entries_sorted m))
