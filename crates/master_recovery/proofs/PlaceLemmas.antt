-- Places, of which an empty one counts as nothing, and what they stand for.
use Rattle.std.specs.Prelude.{◌≡◌, List, [], ◌∷◌, Bool, true, false, cond, ◌&&◌, T, Some, None, Ok, Err, IsSome, is_some, OnOk, OnErr}
use Rattle.std.proofs.Common.{refl, sym, ◌∙◌, ap, subst, true≢false}
use Rattle.std.specs.declared.cmp.Ordering.{Ordering}
use Rattle.std.specs.declared.cmp.Ordering.TheVariants.{Less, Equal, Greater}
use Rattle.std.specs.declared.option.Option.{Option}
use Rattle.std.specs.declared.result.Result.{Result}
use Rattle.std.specs.Ordering.{eq_by_cmp, is_eq, is_lt}
use Rattle.std.specs.Cmp.{IsTotalOrder, Equal-is, tied_itself}
use Rattle.std.specs.FinMap.{FinMap, IsAntisymmetric, entries, entries_sorted, find, get, insert, retain_keys, empty, get-entries, get-from_entries, get-from_sorted, get-insert, get-retain_keys, entries-from_sorted, from_sorted, same_map, is_sorted, from_entries}
use Rattle.std.specs.FinMap.Entries.{below_all, is_sorted-where_key, find-where_key, where_key}
use Rattle.tm_data.specs.Maps.{entries-empty}
use Rattle.master_recovery.specs.Places.{HasAll, keep, kept, valued, with_items}

pub not_both : {P : Type 0} (a : Bool) → a ≡ true → a ≡ false → P
not_both a h g = absurd (true≢false (sym h ∙ g))

pub first_of_both : (a b : Bool) → T (a && b) → T a
first_of_both true b h = tt
first_of_both false b h = h

pub second_of_both : (a b : Bool) → T (a && b) → T b
second_of_both true b h = h
second_of_both false b h = absurd h

of_both : (a b : Bool) → T a → T b → T (a && b)
of_both true b g h = h
of_both false b g h = absurd g

less_not_equal : (o : Ordering) → T (is_lt o) → is_eq o ≡ false
less_not_equal Less h = refl
less_not_equal Equal h = absurd h
less_not_equal Greater h = absurd h

-- a value, where there is a place that isn't empty
abbrev pub or_gone : {X : Type 0} → Option (Option X) → Option X
or_gone None = None
or_gone (Some place) = place

out : {X : Type 0} (b : Bool) (v : X) (o : Option (Option X)) → or_gone (cond b (Some (Some v)) o) ≡ cond b (Some v) (or_gone o)
out true v o = refl
out false v o = refl

pub valued-empty : {K X : Type 0} (R : K → K → Ordering) → valued {K = K} {X = X} {R = R} empty ≡ empty
valued-empty R = ap (λ es. from_entries {R = R} (kept es)) (entries-empty R)

module _ {K : Type 0} {R : K → K → Ordering} (total : IsTotalOrder R) (exact : IsAntisymmetric R) where
  pub equal : (x y : K) → eq_by_cmp R x y ≡ true → x ≡ y
  equal x y h = exact x y ((Equal-is (R x y)).0 h)

  pub is_itself : (x : K) → eq_by_cmp R x x ≡ true
  is_itself x = ap is_eq (tied_itself total x)

  none_below : {X : Type 0} (k : K) (es : List (K × X)) → T (below_all R k es) → find R k es ≡ None
  none_below k [] h = refl
  none_below k (e ∷ es) h =
      ap (λ b. cond b (Some e.1) (find R k es)) (less_not_equal (R k e.0) (first_of_both _ _ h)) ∙ none_below k es (second_of_both _ _ h)

  -- what a test of the keys keeps
  pub get-kept : {X : Type 0} (m : FinMap R X) (p : K → Bool) (q : K) → get (retain_keys m p) q ≡ cond (p q) (get m q) None
  get-kept m p q = get-retain_keys m p q (λ x h. ap p (sym (exact q x h)))

  -- the entries of a list in order
  pub entries_of_sorted : {X : Type 0} (es : List (K × X)) → T (is_sorted R es) → entries (from_entries {R = R} es) ≡ es
  entries_of_sorted es s =
      ap entries (same_map total exact (from_entries es) (from_sorted es) (λ q. get-from_entries total es q ∙ sym (get-from_sorted R es q s))) ∙ entries-from_sorted R es s

  -- those of what a test of the keys keeps
  pub entries-retain : {X : Type 0} (m : FinMap R X) (p : K → Bool) → entries (retain_keys m p) ≡ where_key R p (entries m)
  entries-retain m p =
      let s = is_sorted-where_key R p (entries m) (entries_sorted m) in
      ap entries (same_map total exact (retain_keys m p) (from_sorted (where_key R p (entries m))) (λ q.
      get-kept m p q ∙ ap (λ o. cond (p q) o None) (get-entries m q)
      ∙ sym (get-from_sorted R (where_key R p (entries m)) q s ∙ find-where_key R p q (λ x h. ap p (sym (exact q x h))) (entries m))))
      ∙ entries-from_sorted R (where_key R p (entries m)) s

module _ {K X : Type 0} {R : K → K → Ordering} (total : IsTotalOrder R) (exact : IsAntisymmetric R) where
  below-kept : (k : K) (es : List (K × Option X)) → T (below_all R k es) → T (below_all R k (kept es))
  below-kept k [] h = tt
  below-kept k (e ∷ es) h = by e.1 (below-kept k es (second_of_both _ _ h))
    where
      by : (o : Option X) → T (below_all R k (kept es)) → T (below_all R k (keep e.0 o (kept es)))
      by None rest = rest
      by (Some v) rest = of_both _ _ (first_of_both _ _ h) rest

  pub sorted-kept : (es : List (K × Option X)) → T (is_sorted R es) → T (is_sorted R (kept es))
  sorted-kept [] s = tt
  sorted-kept (e ∷ es) s = by e.1 (sorted-kept es (second_of_both _ _ s))
    where
      by : (o : Option X) → T (is_sorted R (kept es)) → T (is_sorted R (keep e.0 o (kept es)))
      by None rest = rest
      by (Some v) rest = of_both _ _ (below-kept e.0 es (first_of_both _ _ s)) rest

  pub entries-valued : (m : FinMap R (Option X)) → entries (valued m) ≡ kept (entries m)
  entries-valued m = entries_of_sorted total exact (kept (entries m)) (sorted-kept (entries m) (entries_sorted m))

  find_kept : (es : List (K × Option X)) → T (is_sorted R es) → (q : K) → find R q (kept es) ≡ or_gone (find R q es)
  find_kept [] s q = refl
  find_kept (e ∷ es) s q = by e.1 (eq_by_cmp R q e.0) refl (find_kept es (second_of_both _ _ s) q)
    where
      by : (o : Option X) (b : Bool) → eq_by_cmp R q e.0 ≡ b → find R q (kept es) ≡ or_gone (find R q es)
          → find R q (keep e.0 o (kept es)) ≡ or_gone (cond b (Some o) (find R q es))
      by None true same rest =
          rest ∙ ap or_gone (ap (λ k. find R k es) (equal total exact q e.0 same) ∙ none_below total exact e.0 es (first_of_both _ _ s))
      by None false same rest = rest
      by (Some v) true same rest = ap (λ b. cond b (Some v) (find R q (kept es))) same
      by (Some v) false same rest = ap (λ b. cond b (Some v) (find R q (kept es))) same ∙ rest

  pub get-valued : (m : FinMap R (Option X)) (q : K) → get (valued m) q ≡ or_gone (get m q)
  get-valued m q = get-from_entries total (kept (entries m)) q ∙ find_kept (entries m) (entries_sorted m) q ∙ ap or_gone (sym (get-entries m q))

  -- an empty place at a key without a place changes no value
  pub valued-place : (m : FinMap R (Option X)) (k : K) → get m k ≡ None → valued (insert m k None) ≡ valued m
  valued-place m k none = same_map total exact _ _ (λ q.
      get-valued (insert m k None) q ∙ ap or_gone (get-insert total m k None q) ∙ by q (eq_by_cmp R q k) refl ∙ sym (get-valued m q))
    where
      by : (q : K) (b : Bool) → eq_by_cmp R q k ≡ b → or_gone (cond b (Some None) (get m q)) ≡ or_gone (get m q)
      by q true same = sym (ap or_gone (ap (get m) (equal total exact q k same) ∙ none))
      by q false same = refl

  pub valued-insert : (m : FinMap R (Option X)) (k : K) (v : X) → valued (insert m k (Some v)) ≡ insert (valued m) k v
  valued-insert m k v = same_map total exact _ _ (λ q.
      get-valued (insert m k (Some v)) q ∙ ap or_gone (get-insert total m k (Some v) q) ∙ out (eq_by_cmp R q k) v (get m q)
      ∙ ap (cond (eq_by_cmp R q k) (Some v)) (sym (get-valued m q)) ∙ sym (get-insert total (valued m) k v q))

  pub same_place : (m next was : FinMap R (Option X)) (k : K) → next ≡ insert m k None → get m k ≡ None → valued m ≡ valued was → valued next ≡ valued was
  same_place m next was k new none same = ap valued new ∙ valued-place m k none ∙ same

  -- ---- which keys have places

  -- each place of m is one of n
  abbrev pub HasMore : FinMap R (Option X) → FinMap R (Option X) → Type 0
  HasMore m n = (q : K) → IsSome (get m q) → IsSome (get n q)

  more-insert : (m : FinMap R (Option X)) (k : K) (o : Option X) → HasMore m (insert m k o)
  more-insert m k o q h = subst IsSome (sym (get-insert total m k o q)) (by (eq_by_cmp R q k))
    where
      by : (b : Bool) → IsSome (cond b (Some o) (get m q))
      by true = refl
      by false = h

  place-insert : (m : FinMap R (Option X)) (k : K) (o : Option X) → IsSome (get (insert m k o) k)
  place-insert m k o = subst IsSome (sym (get-insert total m k o k ∙ ap (λ b. cond b (Some o) (get m k)) (is_itself total exact k))) refl

module _ {A K X : Type 0} {R : K → K → Ordering} (total : IsTotalOrder R) (exact : IsAntisymmetric R) (key : A → K) where
  all-more : (m n : FinMap R (Option X)) → HasMore total exact m n → (items : List A) → HasAll key m items → HasAll key n items
  all-more m n more [] h = tt
  all-more m n more (a ∷ items) h = (more (key a) h.0, all-more m n more items h.1)

  -- what is wanted of the items that are left, for all to have places
  abbrev pub Reserves : FinMap R (Option X) → List A → List A → Type 0
  Reserves m rest all = (n : FinMap R (Option X)) → HasMore total exact m n → HasAll key n rest → HasAll key n all

  pub reserves_new : (m next : FinMap R (Option X)) (its rest all : List A) (a : A) → its ≡ a ∷ rest → next ≡ insert m (key a) None → Reserves m its all → Reserves next rest all
  reserves_new m next its rest all a is new inv n more places =
      inv n (λ q h. more q (subst (λ x. IsSome (get x q)) (sym new) (more-insert total exact m (key a) None q h)))
      (subst (HasAll key n) (sym is) (more (key a) (subst (λ x. IsSome (get x (key a))) (sym new) (place-insert total exact m (key a) None)), places))

  pub reserves_old : (m : FinMap R (Option X)) (its rest all : List A) (a : A) → its ≡ a ∷ rest → IsSome (get m (key a)) → Reserves m its all → Reserves m rest all
  reserves_old m its rest all a is there inv n more places = inv n more (subst (HasAll key n) (sym is) (more (key a) there, places))

  pub reserved : (m : FinMap R (Option X)) (its all : List A) → its ≡ [] → Reserves m its all → HasAll key m all
  reserved m its all is inv = inv m (λ q h. h) (subst (HasAll key m) (sym is) tt)

  pub all_here : (m : FinMap R (Option X)) (its rest : List A) (a : A) → its ≡ a ∷ rest → HasAll key m its → IsSome (get m (key a))
  all_here m its rest a is h = (subst (HasAll key m) is h).0

  pub all_next : (m next : FinMap R (Option X)) (its rest : List A) (a : A) (o : Option X) → its ≡ a ∷ rest → HasAll key m its → next ≡ insert m (key a) o → HasAll key next rest
  all_next m next its rest a o is h new =
      subst (λ n. HasAll key n rest) (sym new) (all-more m (insert m (key a) o) (more-insert total exact m (key a) o) rest (subst (HasAll key m) is h).1)

  pub turn : (value : A → X) (m next : FinMap R (Option X)) (its rest : List A) (a : A) (target : FinMap R X)
      → its ≡ a ∷ rest → with_items key value (valued m) its ≡ target → next ≡ insert m (key a) (Some (value a)) → with_items key value (valued next) rest ≡ target
  turn value m next its rest a target is same new =
      ap (λ n. with_items key value (valued n) rest) new ∙ ap (λ n. with_items key value n rest) (valued-insert total exact m (key a) (value a)) ∙ ap (with_items key value (valued m)) (sym is) ∙ same

-- ---- calls that cannot fail

pub ok_only : {X E P Q : Type 0} (r : Result X E) → OnOk r P → OnErr r Q → (Q → ⊥) → P
ok_only (Ok x) p q none = p
ok_only (Err e) p q none = absurd (none q)

pub some_not_none : {X : Type 0} (o : Option X) → IsSome o → o ≡ None → ⊥
some_not_none o some none = not_both true refl (sym some ∙ ap is_some none)

pub none_where_not : {X : Type 0} (o : Option X) → is_some o ≡ false → o ≡ None
none_where_not None h = refl
none_where_not (Some x) h = not_both true refl h
