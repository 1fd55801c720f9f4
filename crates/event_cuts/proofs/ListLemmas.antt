-- The lists that are made of the puts.
use Rattle.std.proofs.Common.{◌≡◌, ℕ, Bool, true, false, cond, List, [], ◌∷◌, refl, sym, subst, ap, ◌∙◌}
use Rattle.std.specs.Prelude.{T, map}
use Rattle.std.specs.List.{AllByRecursion}
use Rattle.std.specs.List.Sorted.{IsStrictlySortedBy}
use Rattle.std.specs.Ordering.{eq_by_cmp, is_lt}
use Rattle.std.specs.Cmp.{Equal-is}
use Rattle.std.specs.FinMap.{entries, entries_sorted, find, get, get-entries, is_sorted}
use Rattle.std.specs.FinMap.Entries.{below_all}
use Rattle.std.specs.declared.cmp.Ordering.{Ordering}
use Rattle.std.specs.declared.cmp.Ordering.TheVariants.{Less, Equal, Greater}
use Rattle.std.specs.declared.option.Option.{Option}
use Rattle.std.specs.declared.option.Option.TheVariants.{None, Some}
use Rattle.tm_data.specs.declared.row_map.RowKey.{RowKey}
use Rattle.tm_data.specs.declared.row.Row.{Row}
use Rattle.tm_data.specs.declared.row.Before.{Before}
use Rattle.tm_data.specs.declared.row.Before.TheVariants.{Same, Was}
use Rattle.tm_data.specs.Orders.{row_cmp, row_cmp-total, row_cmp-exact}
use Rattle.key_model.specs.declared.events.Event.{Event}
use Rattle.key_model.specs.Steps.{row_of}
use Rattle.key_model.specs.After.{same_row, same_value}
use Rattle.key_model.specs.Events.{has_end}
use Rattle.key_model.specs.Cuts.{Cut, within, Written, puts_on, value_before, before_of, row_by, row_at, value_by}
use Rattle.key_index.proofs.AnyLemmas.{none_below, first_of_both, second_of_both, some_is, none_not_some}
use Rattle.event_cuts.specs.declared.last_puts.LastPut.{LastPut}
use Rattle.event_cuts.specs.Lists.{key_of_row, row_in, AreRowsAt, key_of_entry, value_in, IsMapAt}
use Rattle.event_cuts.specs.Inside.{LastPuts, before_in, row_from, row_left, Finds, EndMap, HasEnds, mapped, rows_of, with_entry, entries_of}
use Rattle.key_model.proofs.LawLemmas.{row_same, value_is}
use Rattle.event_cuts.proofs.PutLemmas.{same_key}

abbrev Found : Type 0
Found = List (RowKey × LastPut)

pub is_less : (r : Ordering) → T (is_lt r) → r ≡ Less
is_less Less h = refl
is_less Equal h = absurd h
is_less Greater h = absurd h

-- ---- rows

-- each put is on its own key
abbrev AreKeyed : Found → Type 0
AreKeyed [] = Unit {0}
AreKeyed (e ∷ es) = (e.1.key ≡ e.0.key) × AreKeyed es

key_is : (e : RowKey × LastPut) → e.1.key ≡ e.0.key → row_of e.0.table e.1.key ≡ e.0
key_is e h i = record { table = e.0.table; key = h i }

below_rows : (k : RowKey) (es : Found) → AreKeyed es → T (below_all row_cmp k es) → AllByRecursion (λ q. row_cmp k q ≡ Less) (map key_of_row (rows_of es))
below_rows k [] keyed h = tt
below_rows k (e ∷ es) keyed h =
    (ap (row_cmp k) (key_is e keyed.0) ∙ is_less (row_cmp k e.0) (first_of_both _ _ h), below_rows k es keyed.1 (second_of_both _ _ h))

rows_ascend : (es : Found) → AreKeyed es → T (is_sorted row_cmp es) → IsStrictlySortedBy row_cmp (map key_of_row (rows_of es))
unfolding IsStrictlySortedBy
rows_ascend [] keyed h = tt
rows_ascend (e ∷ es) keyed h = (
  subst (λ k. AllByRecursion (λ q. row_cmp k q ≡ Less) (map key_of_row (rows_of es))) (sym (key_is e keyed.0)) (below_rows e.0 es keyed.1 (first_of_both _ _ h)),
  rows_ascend es keyed.1 (second_of_both _ _ h),
)

abbrev row_found : Option LastPut → Option Row
row_found None = None
row_found (Some p) = Some (row_from p)

row_of_key : (es : Found) → AreKeyed es → (q : RowKey) → row_in (rows_of es) q ≡ row_found (find row_cmp q es)
row_of_key [] keyed q = refl
row_of_key (e ∷ es) keyed q =
    ap (λ k. cond (same_row q k) (Some (row_from e.1)) (row_in (rows_of es) q)) (key_is e keyed.0)
    ∙ ap (λ b. cond b (Some (row_from e.1)) (row_in (rows_of es) q)) (sym (same_key q e.0))
    ∙ ap (cond (eq_by_cmp row_cmp q e.0) (Some (row_from e.1))) (row_of_key es keyed.1 q) ∙ by (eq_by_cmp row_cmp q e.0)
  where
    by : (b : Bool) → cond b (Some (row_from e.1)) (row_found (find row_cmp q es)) ≡ row_found (cond b (Some e.1) (find row_cmp q es))
    by true = refl
    by false = refl

-- what is found in a part of the entries is found in all
found_later : (e : RowKey × LastPut) (es : Found) → T (below_all row_cmp e.0 es) → (q : RowKey) (p : LastPut) → find row_cmp q es ≡ Some p → find row_cmp q (e ∷ es) ≡ Some p
found_later e es below q p found = by (eq_by_cmp row_cmp q e.0) refl
  where
    by : (b : Bool) → eq_by_cmp row_cmp q e.0 ≡ b → cond b (Some e.1) (find row_cmp q es) ≡ Some p
    by true same =
        absurd (none_not_some p (sym (none_below row_cmp-total row_cmp-exact e.0 es below)
        ∙ ap (λ k. find row_cmp k es) (sym (row_cmp-exact q e.0 ((Equal-is (row_cmp q e.0)).0 same))) ∙ found))
    by false same = found

all_keyed : (es : Found) → T (is_sorted row_cmp es) → ((q : RowKey) (p : LastPut) → find row_cmp q es ≡ Some p → p.key ≡ q.key) → AreKeyed es
all_keyed [] s h = tt
all_keyed (e ∷ es) s h = (
  h e.0 e.1 (ap (λ b. cond b (Some e.1) (find row_cmp e.0 es)) (same_key e.0 e.0 ∙ row_same e.0)),
  all_keyed es (second_of_both _ _ s) (λ q p found. h q p (found_later e es (first_of_both _ _ s) q p found)),
)

-- ---- what is found

row_key : (key : RowKey) (ws : List Written) (r : Row) → row_by key ws ≡ Some r → r.key ≡ key.key
row_key key [] r h = absurd (none_not_some r h)
row_key key (w ∷ ws) r h = sym (ap (λ (x : Row). x.key) (some_is _ r h))

left_none : (key : RowKey) (o : Option LastPut) → row_left key o [] ≡ row_found o
left_none key None = refl
left_none key (Some p) = refl

module _ (events : List Event) (cut : Cut) (m : LastPuts) (finds : Finds m (λ key. []) (row_at events cut)) where
  found_is : (key : RowKey) → row_found (find row_cmp key (entries m)) ≡ row_at events cut key
  found_is key = ap row_found (sym (get-entries m key)) ∙ sym (left_none key (get m key)) ∙ finds key

  keyed : AreKeyed (entries m)
  keyed = all_keyed (entries m) (entries_sorted m) (λ q p found. row_key q (puts_on q (within cut events)) (row_from p) (sym (found_is q) ∙ ap row_found found))

  pub are_rows : AreRowsAt events cut (rows_of (entries m))
  are_rows = record {
    ascending = rows_ascend (entries m) keyed (entries_sorted m);
    each = λ key. row_of_key (entries m) keyed key ∙ found_is key;
  }

-- ---- entries

below_entries : (ended : EndMap) (k : RowKey) (es : Found) → T (below_all row_cmp k es) → AllByRecursion (λ q. row_cmp k q ≡ Less) (map key_of_entry (entries_of ended es))
below_entries ended k [] h = tt
below_entries ended k (e ∷ es) h = by (mapped ended e.1) (below_entries ended k es (second_of_both _ _ h))
  where
    by : (o : Option (List ℕ)) → AllByRecursion (λ q. row_cmp k q ≡ Less) (map key_of_entry (entries_of ended es))
        → AllByRecursion (λ q. row_cmp k q ≡ Less) (map key_of_entry (with_entry e.0 o (entries_of ended es)))
    by None rest = rest
    by (Some v) rest = (is_less (row_cmp k e.0) (first_of_both _ _ h), rest)

entries_ascend : (ended : EndMap) (es : Found) → T (is_sorted row_cmp es) → IsStrictlySortedBy row_cmp (map key_of_entry (entries_of ended es))
unfolding IsStrictlySortedBy
entries_ascend ended [] h = tt
entries_ascend ended (e ∷ es) h =
    elim (mapped ended e.1) as (λ o. IsStrictlySortedBy row_cmp (map key_of_entry (with_entry e.0 o (entries_of ended es)))) [
      | None ↦ entries_ascend ended es (second_of_both _ _ h)
      | Some v ↦ (below_entries ended e.0 es (first_of_both _ _ h), entries_ascend ended es (second_of_both _ _ h))
    ]

abbrev value_found : EndMap → Option LastPut → Option (List ℕ)
value_found ended None = None
value_found ended (Some p) = mapped ended p

value_of_key : (ended : EndMap) (es : Found) → T (is_sorted row_cmp es) → (q : RowKey) → value_in (entries_of ended es) q ≡ value_found ended (find row_cmp q es)
value_of_key ended [] s q = refl
value_of_key ended (e ∷ es) s q = by (mapped ended e.1) refl (eq_by_cmp row_cmp q e.0) refl (value_of_key ended es (second_of_both _ _ s) q)
  where
    by : (o : Option (List ℕ)) → mapped ended e.1 ≡ o → (b : Bool) → eq_by_cmp row_cmp q e.0 ≡ b → value_in (entries_of ended es) q ≡ value_found ended (find row_cmp q es)
        → value_in (with_entry e.0 o (entries_of ended es)) q ≡ value_found ended (cond b (Some e.1) (find row_cmp q es))
    by None is true same rest =
        rest
        ∙ ap (value_found ended) (ap (λ k. find row_cmp k es) (row_cmp-exact q e.0 ((Equal-is (row_cmp q e.0)).0 same)) ∙ none_below row_cmp-total row_cmp-exact e.0 es (first_of_both _ _ s))
        ∙ sym is
    by None is false same rest = rest
    by (Some v) is true same rest = ap (λ b. cond b (Some v) (value_in (entries_of ended es) q)) (sym (same_key q e.0) ∙ same) ∙ sym is
    by (Some v) is false same rest = ap (λ b. cond b (Some v) (value_in (entries_of ended es) q)) (sym (same_key q e.0) ∙ same) ∙ rest

-- ---- the value in a row

abbrev was : Option (List ℕ) → Before → Option (List ℕ)
was now Same = now
was now (Was value) = value

was_is : (now before : Option (List ℕ)) → was now (before_of now before) ≡ before
was_is now before = by (same_value before now) refl
  where
    by : (b : Bool) → same_value before now ≡ b → was now (cond b Same (Was before)) ≡ before
    by true is = sym (value_is before now is)
    by false is = refl

value_is_by : (ended : EndMap) (past : List Event) → HasEnds ended past → (key : RowKey) (o : Option LastPut) (ws : List Written) → row_found o ≡ row_by key ws → value_found ended o ≡ value_by past ws
value_is_by ended past has key None [] h = refl
value_is_by ended past has key None (w ∷ ws) h = absurd (none_not_some _ h)
value_is_by ended past has key (Some p) [] h = absurd (none_not_some _ (sym h))
value_is_by ended past has key (Some p) (w ∷ ws) h =
    let r : row_from p ≡ record { key = key.key; txn = w.txn; now = w.value; before = before_of w.value (value_before w.txn (w ∷ ws)) } = some_is _ _ h in
    let b : before_in p ≡ value_before w.txn (w ∷ ws) =
    sym (was_is p.value (before_in p)) ∙ ap (λ (x : Row). was x.now x.before) r ∙ was_is w.value (value_before w.txn (w ∷ ws)) in
    ap (λ e. cond e p.value (before_in p)) (has p.txn) ∙ (λ i. cond (has_end (r i).txn past) (r i).now (b i))

pub is_map : (events : List Event) (cut : Cut) (m : LastPuts) (ended : EndMap) → Finds m (λ key. []) (row_at events cut) → HasEnds ended (within cut events)
    → IsMapAt events cut (entries_of ended (entries m))
is_map events cut m ended finds has = record {
  ascending = entries_ascend ended (entries m) (entries_sorted m);
  each = λ key.
      value_of_key ended (entries m) (entries_sorted m) key
      ∙ value_is_by ended (within cut events) has key (find row_cmp key (entries m)) (puts_on key (within cut events)) (found_is events cut m finds key);
}
