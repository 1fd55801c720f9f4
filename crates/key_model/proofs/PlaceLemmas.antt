-- Places, of which an empty one counts as nothing, and what they stand for.
use Rattle.std.specs.Prelude.{◌≡◌, List, [], ◌∷◌, Bool, true, false, cond, ◌&&◌, ◌||◌, T, Some, None, Ok, Err, IsSome, is_some, is_none, filter, OnOk, OnErr}
use Rattle.std.proofs.Common.{refl, sym, ◌∙◌, ap, subst, Bor}
use Rattle.std.specs.declared.cmp.Ordering.{Ordering}
use Rattle.std.specs.declared.option.Option.{Option}
use Rattle.std.specs.declared.result.Result.{Result}
use Rattle.std.specs.Option.{option_copied, option_or}
use Rattle.std.specs.Ordering.{eq_by_cmp}
use Rattle.std.specs.Cmp.{IsTotalOrder}
use Rattle.std.specs.BTreeMap.{BTreeMap}
use Rattle.std.specs.FinMap.{FinMap, IsAntisymmetric, entries, entries_sorted, find, get, insert, remove, retain_keys, empty, get-entries, get-from_entries, get-insert, get-remove, same_map, is_sorted, from_entries}
use Rattle.std.specs.FinSet as sets
use Rattle.tm_data.specs.Maps.{as_map, entries-empty}
use Rattle.std.specs.Map.{keys_of}
use Rattle.std.specs.List.{list_any}
use Rattle.key_model.specs.Inside.{keep, kept, valued, there, HasAll, over}
use Rattle.key_index.proofs.AnyLemmas.{none_below, first_of_both, second_of_both, not_both, equal, itself, get-kept}

-- a value, where there is a place that isn't empty
abbrev pub or_gone : {X : Type 0} → Option (Option X) → Option X
or_gone None = None
or_gone (Some place) = place

out : {X : Type 0} (b : Bool) (v : X) (o : Option (Option X)) → or_gone (cond b (Some (Some v)) o) ≡ cond b (Some v) (or_gone o)
out true v o = refl
out false v o = refl

out_none : {X : Type 0} (b : Bool) (o : Option (Option X)) → or_gone (cond b None o) ≡ cond b None (or_gone o)
out_none true o = refl
out_none false o = refl

pub there-empty : {K : Type 0} (X : Type 0) (R : K → K → Ordering) → there {K = K} {X = X} {R = R} empty ≡ sets.empty
there-empty X R = ap (λ es. sets.from_list {R = R} (keys_of (kept es))) (entries-empty R)

pub valued-empty : {K X : Type 0} (R : K → K → Ordering) → valued {K = K} {X = X} {R = R} empty ≡ empty
valued-empty R = ap (λ es. from_entries {R = R} (kept es)) (entries-empty R)

module _ {K : Type 0} {R : K → K → Ordering} (total : IsTotalOrder R) (exact : IsAntisymmetric R) where
  get-over : {Y : Type 0} (m : FinMap R Y) (es : List (K × Y)) → T (is_sorted R es) → (q : K) → get (over m es) q ≡ option_or (find R q es) (get m q)
  get-over m [] s q = refl
  get-over m (e ∷ es) s q =
      get-over (insert m e.0 e.1) es (second_of_both _ _ s) q ∙ ap (option_or (find R q es)) (get-insert total m e.0 e.1 q) ∙ by (eq_by_cmp R q e.0) refl
    where
      by : (b : Bool) → eq_by_cmp R q e.0 ≡ b → option_or (find R q es) (cond b (Some e.1) (get m q)) ≡ option_or (cond b (Some e.1) (find R q es)) (get m q)
      by true same =
          ap (λ o. option_or o (Some e.1)) (ap (λ k. find R k es) (equal total exact q e.0 same) ∙ none_below total exact e.0 es (first_of_both _ _ s))
      by false same = refl

  pub get-over_map : {Y : Type 0} (m n : FinMap R Y) (q : K) → get (over m (entries n)) q ≡ option_or (get n q) (get m q)
  get-over_map m n q = get-over m (entries n) (entries_sorted n) q ∙ ap (λ o. option_or o (get m q)) (sym (get-entries n q))

  -- what `retain` leaves of an ordered map
  find_filter : {Y : Type 0} (p : K → Bool) (es : List (K × Y)) (q : K) → find R q (filter (λ e. p e.0) es) ≡ cond (p q) (find R q es) None
  find_filter p [] q = by (p q)
    where
      by : {Y : Type 0} (b : Bool) → ◌≡◌ {A = Option Y} None (cond b None None)
      by true = refl
      by false = refl
  find_filter p (e ∷ es) q = by (p e.0) refl (eq_by_cmp R q e.0) refl (find_filter p es q)
    where
      by : (a : Bool) → p e.0 ≡ a → (b : Bool) → eq_by_cmp R q e.0 ≡ b → find R q (filter (λ e. p e.0) es) ≡ cond (p q) (find R q es) None
          → find R q (cond a (e ∷ filter (λ e. p e.0) es) (filter (λ e. p e.0) es)) ≡ cond (p q) (cond b (Some e.1) (find R q es)) None
      by true is true same rest =
          ap (λ b. cond b (Some e.1) (find R q (filter (λ e. p e.0) es))) same
          ∙ sym (ap (λ c. cond c (Some e.1) None) (ap p (equal total exact q e.0 same) ∙ is))
      by true is false same rest = ap (λ b. cond b (Some e.1) (find R q (filter (λ e. p e.0) es))) same ∙ rest
      by false is true same rest =
          let gone : p q ≡ false = ap p (equal total exact q e.0 same) ∙ is in
          rest ∙ ap (λ c. cond c (find R q es) None) gone ∙ sym (ap (λ c. cond c (Some e.1) None) gone)
      by false is false same rest = rest

  pub retain-as_map : {Y : Type 0} (p : K → Bool) (m n : BTreeMap K Y) → n.entries ≡ filter (λ e. p e.0) m.entries → as_map {R = R} n ≡ retain_keys (as_map m) p
  retain-as_map p m n is = ap (from_entries {R = R}) is ∙ same_map total exact _ _ (λ q.
      get-from_entries total (filter (λ e. p e.0) m.entries) q ∙ find_filter p m.entries q
      ∙ ap (λ o. cond (p q) o None) (sym (get-from_entries total m.entries q)) ∙ sym (get-kept total exact (as_map m) p q))

module _ {K X : Type 0} {R : K → K → Ordering} (total : IsTotalOrder R) (exact : IsAntisymmetric R) where
  find_kept : (es : List (K × Option X)) → T (is_sorted R es) → (q : K) → find R q (kept es) ≡ or_gone (find R q es)
  find_kept [] s q = refl
  find_kept (e ∷ es) s q = by e.1 (eq_by_cmp R q e.0) refl (find_kept es (second_of_both _ _ s) q)
    where
      by : (o : Option X) (b : Bool) → eq_by_cmp R q e.0 ≡ b → find R q (kept es) ≡ or_gone (find R q es)
          → find R q (keep e.0 o (kept es)) ≡ or_gone (cond b (Some o) (find R q es))
      by None true same rest =
          rest ∙ ap or_gone (ap (λ k. find R k es) (equal total exact q e.0 same) ∙ none_below total exact e.0 es (first_of_both _ _ s))
      by None false same rest = rest
      by (Some v) true same rest = ap (λ b. cond b (Some v) (find R q (kept es))) same
      by (Some v) false same rest = ap (λ b. cond b (Some v) (find R q (kept es))) same ∙ rest

  pub get-valued : (m : FinMap R (Option X)) (q : K) → get (valued m) q ≡ or_gone (get m q)
  get-valued m q = get-from_entries total (kept (entries m)) q ∙ find_kept (entries m) (entries_sorted m) q ∙ ap or_gone (sym (get-entries m q))

  -- an empty place at a key without a place changes no value
  pub valued-place : (m : FinMap R (Option X)) (k : K) → get m k ≡ None → valued (insert m k None) ≡ valued m
  valued-place m k none = same_map total exact _ _ (λ q.
      get-valued (insert m k None) q ∙ ap or_gone (get-insert total m k None q) ∙ by q (eq_by_cmp R q k) refl ∙ sym (get-valued m q))
    where
      by : (q : K) (b : Bool) → eq_by_cmp R q k ≡ b → or_gone (cond b (Some None) (get m q)) ≡ or_gone (get m q)
      by q true same = sym (ap or_gone (ap (get m) (equal total exact q k same) ∙ none))
      by q false same = refl

  pub valued-insert : (m : FinMap R (Option X)) (k : K) (v : X) → valued (insert m k (Some v)) ≡ insert (valued m) k v
  valued-insert m k v = same_map total exact _ _ (λ q.
      get-valued (insert m k (Some v)) q ∙ ap or_gone (get-insert total m k (Some v) q) ∙ out (eq_by_cmp R q k) v (get m q)
      ∙ ap (cond (eq_by_cmp R q k) (Some v)) (sym (get-valued m q)) ∙ sym (get-insert total (valued m) k v q))

  pub valued-remove : (m : FinMap R (Option X)) (k : K) → valued (remove m k) ≡ remove (valued m) k
  valued-remove m k = same_map total exact _ _ (λ q.
      get-valued (remove m k) q ∙ ap or_gone (get-remove total m k q) ∙ out_none (eq_by_cmp R q k) (get m q)
      ∙ ap (cond (eq_by_cmp R q k) None) (sym (get-valued m q)) ∙ sym (get-remove total (valued m) k q))

  -- ---- the set of those that are there

  any_found : (es : List (K × X)) (q : K) → list_any (eq_by_cmp R q) (keys_of es) ≡ is_some (find R q es)
  any_found [] q = refl
  any_found (e ∷ es) q = ap (λ b. eq_by_cmp R q e.0 || b) (any_found es q) ∙ by (eq_by_cmp R q e.0)
    where
      by : (b : Bool) → (b || is_some (find R q es)) ≡ is_some (cond b (Some e.1) (find R q es))
      by true = refl
      by false = refl

  pub contains-there : (m : FinMap R (Option X)) (q : K) → sets.contains (there m) q ≡ is_some (or_gone (get m q))
  contains-there m q =
      sets.contains-from_list total (keys_of (kept (entries m))) q ∙ any_found (kept (entries m)) q
      ∙ ap is_some (find_kept (entries m) (entries_sorted m) q ∙ ap or_gone (sym (get-entries m q)))

  pub there-place : (m : FinMap R (Option X)) (k : K) → get m k ≡ None → there (insert m k None) ≡ there m
  there-place m k none = sets.same_set total exact _ _ (λ q.
      contains-there (insert m k None) q ∙ ap (λ o. is_some (or_gone o)) (get-insert total m k None q) ∙ by q (eq_by_cmp R q k) refl ∙ sym (contains-there m q))
    where
      by : (q : K) (b : Bool) → eq_by_cmp R q k ≡ b → is_some (or_gone (cond b (Some None) (get m q))) ≡ is_some (or_gone (get m q))
      by q true same = sym (ap (λ o. is_some (or_gone o)) (ap (get m) (equal total exact q k same) ∙ none))
      by q false same = refl

  pub there-insert : (m : FinMap R (Option X)) (k : K) (v : X) → there (insert m k (Some v)) ≡ sets.insert (there m) k
  there-insert m k v = sets.same_set total exact _ _ (λ q.
      contains-there (insert m k (Some v)) q ∙ ap (λ o. is_some (or_gone o)) (get-insert total m k (Some v) q) ∙ by (eq_by_cmp R q k) (get m q)
      ∙ ap (λ b. eq_by_cmp R q k || b) (sym (contains-there m q)) ∙ sym (sets.contains-insert total (there m) k q))
    where
      by : (b : Bool) (o : Option (Option X)) → is_some (or_gone (cond b (Some (Some v)) o)) ≡ (b || is_some (or_gone o))
      by true o = refl
      by false o = refl

  pub there-retain : (m : FinMap R (Option X)) (p : K → Bool) → there (retain_keys m p) ≡ sets.retain (there m) p
  there-retain m p = sets.same_set total exact _ _ (λ q.
      contains-there (retain_keys m p) q ∙ ap (λ o. is_some (or_gone o)) (get-kept total exact m p q) ∙ by (p q) (get m q)
      ∙ ap (λ b. b && p q) (sym (contains-there m q)) ∙ sym (sets.contains-retain (there m) p q (λ x tied. ap p (sym (exact q x tied)))))
    where
      by : (b : Bool) (o : Option (Option X)) → is_some (or_gone (cond b o None)) ≡ (is_some (or_gone o) && b)
      by true None = refl
      by true (Some None) = refl
      by true (Some (Some x)) = refl
      by false None = refl
      by false (Some None) = refl
      by false (Some (Some x)) = refl

  pub same_there : (m next was : FinMap R (Option X)) (k : K) → next ≡ insert m k None → get m k ≡ None → there m ≡ there was → there next ≡ there was
  same_there m next was k new none same = ap there new ∙ there-place m k none ∙ same

  -- each place of m is one of n
  abbrev pub HasMore : FinMap R (Option X) → FinMap R (Option X) → Type 0
  HasMore m n = (q : K) → IsSome (get m q) → IsSome (get n q)

  pub more-insert : (m : FinMap R (Option X)) (k : K) (o : Option X) → HasMore m (insert m k o)
  more-insert m k o q h = subst IsSome (sym (get-insert total m k o q)) (by (eq_by_cmp R q k))
    where
      by : (b : Bool) → IsSome (cond b (Some o) (get m q))
      by true = refl
      by false = h

  pub place-insert : (m : FinMap R (Option X)) (k : K) (o : Option X) → IsSome (get (insert m k o) k)
  place-insert m k o = subst IsSome (sym (get-insert total m k o k ∙ ap (λ b. cond b (Some o) (get m k)) (itself total exact k))) refl

  pub all-more : (m n : FinMap R (Option X)) → HasMore m n → (ks : List K) → HasAll m ks → HasAll n ks
  all-more m n more [] h = tt
  all-more m n more (k ∷ ks) h = (more k h.0, all-more m n more ks h.1)

  -- ---- the loops

  -- what is wanted of the keys that are left, for all to have places
  abbrev pub Reserves : FinMap R (Option X) → List K → List K → Type 0
  Reserves m rest all = (n : FinMap R (Option X)) → HasMore m n → HasAll n rest → HasAll n all

  pub reserves_new : (m next : FinMap R (Option X)) (its rest all : List K) (k : K) → its ≡ k ∷ rest → next ≡ insert m k None → Reserves m its all → Reserves next rest all
  reserves_new m next its rest all k is new inv n more places =
      inv n (λ q h. more q (subst (λ x. IsSome (get x q)) (sym new) (more-insert m k None q h)))
      (subst (HasAll n) (sym is) (more k (subst (λ x. IsSome (get x k)) (sym new) (place-insert m k None)), places))

  pub reserves_old : (m : FinMap R (Option X)) (its rest all : List K) (k : K) → its ≡ k ∷ rest → IsSome (get m k) → Reserves m its all → Reserves m rest all
  reserves_old m its rest all k is there inv n more places = inv n more (subst (HasAll n) (sym is) (more k there, places))

  pub reserved : (m : FinMap R (Option X)) (its all : List K) → its ≡ [] → Reserves m its all → HasAll m all
  reserved m its all is inv = inv m (λ q h. h) (subst (HasAll m) (sym is) tt)

  pub same_place : (m next was : FinMap R (Option X)) (k : K) → next ≡ insert m k None → get m k ≡ None → valued m ≡ valued was → valued next ≡ valued was
  same_place m next was k new none same = ap valued new ∙ valued-place m k none ∙ same

  pub all_here : (m : FinMap R (Option X)) (its rest : List K) (k : K) → its ≡ k ∷ rest → HasAll m its → IsSome (get m k)
  all_here m its rest k is h = (subst (HasAll m) is h).0

  pub all_next : (m next : FinMap R (Option X)) (its rest : List K) (k : K) (o : Option X) → its ≡ k ∷ rest → HasAll m its → next ≡ insert m k o → HasAll next rest
  all_next m next its rest k o is h new =
      subst (λ n. HasAll n rest) (sym new) (all-more m (insert m k o) (more-insert m k o) rest (subst (HasAll m) is h).1)

module _ {K X : Type 0} {R : K → K → Ordering} (total : IsTotalOrder R) (exact : IsAntisymmetric R) where
  pub over_turn : (m next : FinMap R (Option X)) (its rest : List (K × X)) (k : K) (v : X) (target : FinMap R X)
      → its ≡ (k, v) ∷ rest → over (valued m) its ≡ target → next ≡ insert m k (Some v) → over (valued next) rest ≡ target
  over_turn m next its rest k v target is same new =
      ap (λ n. over (valued n) rest) new ∙ ap (λ n. over n rest) (valued-insert total exact m k v) ∙ ap (over (valued m)) (sym is) ∙ same

pub ok_only : {X E P Q : Type 0} (r : Result X E) → OnOk r P → OnErr r Q → (Q → ⊥) → P
ok_only (Ok x) p q none = p
ok_only (Err e) p q none = absurd (none q)

pub some_not_none : {X : Type 0} (o : Option X) → IsSome o → o ≡ None → ⊥
some_not_none o some none = not_both true refl (sym some ∙ ap is_some none)

pub copied_none : {X : Type 0} (o : Option (Bor X)) → is_none o ≡ true → option_copied o ≡ None
copied_none None h = refl
copied_none (Some x) h = absurd (not_both false h refl)

pub copied_some : {X : Type 0} (o : Option (Bor X)) → is_none o ≡ false → IsSome (option_copied o)
copied_some None h = absurd (not_both true refl h)
copied_some (Some x) h = refl

pub none_where_not : {X : Type 0} (o : Option X) → is_some o ≡ false → o ≡ None
none_where_not None h = refl
none_where_not (Some x) h = absurd (not_both true refl h)
