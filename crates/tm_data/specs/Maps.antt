-- The finite map that an ordered map's entries stand for, and the finite set that an ordered set's keys do, or the finite
-- map from each of them to nothing.
use Rattle.std.specs.Prelude.{◌≡◌, List, [], ◌∷◌, length, map, Option, Some, None, true, false, Bool, is_some, not, ◌&&◌, ◌||◌}
use Rattle.std.proofs.Common.{refl, sym, subst, ◌∙◌, ap, cond, arith}
use Rattle.std.specs.declared.cmp.Ordering.{Ordering}
use Rattle.std.specs.Cmp.{IsTotalOrder, eq_by_cmp_equiv}
use Rattle.std.specs.FinMap.{FinMap, IsAntisymmetric, entries, empty, from_entries, find, get, contains_key, keys, insert, remove, get-from_entries, get-insert, get-remove, same_map, entries-insert, len-entries, len-empty}
use Rattle.std.specs.FinMap.Entries.{put, by_order}
use Rattle.std.specs.List.{list_any}
use Rattle.std.specs.Ordering.{eq_by_cmp}
use Rattle.std.specs.List.Sorted.{IsStrictlySortedBy}
use Rattle.std.specs.BTreeMap as tree
use Rattle.std.specs.BTreeMap.{BTreeMap, is_at}
use Rattle.std.specs.Map.{lookup, keys_of}
use Rattle.std.specs.BTreeSet as ordered
use Rattle.std.specs.BTreeSet.{BTreeSet}
use Rattle.std.specs.FinSet as sets

abbrev pub as_map : {K X : Type 0} {R : K → K → Ordering} → BTreeMap K X → FinMap R X
as_map m = from_entries m.entries

module _ {K X : Type 0} (R : K → K → Ordering) where
  find_lookup : (es : List (K × X)) (q : K) → find R q es ≡ lookup (is_at (R q)) es
  find_lookup [] q = refl
  find_lookup (e ∷ es) q = ap (cond (is_at (R q) e.0) (Some e.1)) (find_lookup es q)

  -- an entry below the first one is the new first one
  put_first : (k : K) (v : X) (es : List (K × X)) → IsStrictlySortedBy R (k ∷ keys_of es) → put R k v es ≡ (k, v) ∷ es
  unfolding IsStrictlySortedBy
  put_first k v [] h = refl
  put_first k v (e ∷ es) h = ap (λ r. by_order r ((k, v) ∷ e ∷ es) ((e.0, v) ∷ es) (e ∷ put R k v es)) h.0.0

  none_of_length : (es : List (K × X)) → length es ≡ 0 → es ≡ []
  none_of_length [] h = refl
  none_of_length (e ∷ es) h = absurd (omega arith)

  pub entries-empty : entries (empty {X = X} {R = R}) ≡ []
  entries-empty = none_of_length _ (sym (len-entries (empty {X = X} {R = R})) ∙ len-empty R X)

module _ {K X : Type 0} {R : K → K → Ordering} (total : IsTotalOrder R) where
  pub get-as_map : (m : BTreeMap K X) (q : K) → get (as_map {R = R} m) q ≡ tree.get R m q
  get-as_map m q = get-from_entries total m.entries q ∙ find_lookup R m.entries q

  pub insert-as_map : IsAntisymmetric R → (m n : BTreeMap K X) (k : K) (v : X) → ((q : K) → tree.get R n q ≡ cond (is_at (R k) q) (Some v) (tree.get R m q)) → as_map {R = R} n ≡ insert (as_map m) k v
  insert-as_map exact m n k v updates = same_map total exact _ _ (λ q.
      get-as_map n q ∙ updates q ∙ ap (λ b. cond b (Some v) (tree.get R m q)) ((eq_by_cmp_equiv total).symm k q)
      ∙ sym (get-insert total (as_map m) k v q ∙ ap (cond (is_at (R q) k) (Some v)) (get-as_map m q)))

  pub remove-as_map : IsAntisymmetric R → (m n : BTreeMap K X) (k : K) → ((q : K) → tree.get R n q ≡ cond (is_at (R k) q) None (tree.get R m q)) → as_map {R = R} n ≡ remove (as_map m) k
  remove-as_map exact m n k updates = same_map total exact _ _ (λ q.
      get-as_map n q ∙ updates q ∙ ap (λ b. cond b None (tree.get R m q)) ((eq_by_cmp_equiv total).symm k q)
      ∙ sym (get-remove total (as_map m) k q ∙ ap (cond (is_at (R q) k) None) (get-as_map m q)))

  pub entries-from_entries : (es : List (K × X)) → IsStrictlySortedBy R (keys_of es) → entries (from_entries {R = R} es) ≡ es
  unfolding IsStrictlySortedBy
  entries-from_entries [] h = entries-empty R
  entries-from_entries (e ∷ es) h = entries-insert total (from_entries es) e.0 e.1 ∙ ap (put R e.0 e.1) (entries-from_entries es h.1) ∙ put_first R e.0 e.1 es h

  -- the entries, ascending
  pub entries-as_map : (m : BTreeMap K X) → tree.IsOrdered R m → entries (as_map {R = R} m) ≡ m.entries
  entries-as_map m = entries-from_entries m.entries

abbrev pub as_set : {K : Type 0} {R : K → K → Ordering} → BTreeSet K → sets.FinSet R
as_set s = sets.from_list s.keys

or_cond : (a b : Bool) → cond a true b ≡ (a || b)
or_cond true b = refl
or_cond false b = refl

not_cond : (a b : Bool) → cond a false b ≡ (not a && b)
not_cond true b = refl
not_cond false b = refl

module _ {K : Type 0} {R : K → K → Ordering} (total : IsTotalOrder R) where
  pub contains-as_set : (s : BTreeSet K) (q : K) → sets.contains (as_set {R = R} s) q ≡ ordered.contains R s q
  contains-as_set s q = sets.contains-from_list total s.keys q

  pub insert-as_set : IsAntisymmetric R → (s t : BTreeSet K) (k : K) → ((q : K) → ordered.contains R t q ≡ cond (is_at (R k) q) true (ordered.contains R s q)) → as_set {R = R} t ≡ sets.insert (as_set s) k
  insert-as_set exact s t k updates = sets.same_set total exact _ _ (λ q.
      contains-as_set t q ∙ updates q ∙ ap (λ b. cond b true (ordered.contains R s q)) ((eq_by_cmp_equiv total).symm k q) ∙ or_cond (is_at (R q) k) _
      ∙ sym (sets.contains-insert total (as_set s) k q ∙ ap (λ b. is_at (R q) k || b) (contains-as_set s q)))

  pub remove-as_set : IsAntisymmetric R → (s t : BTreeSet K) (k : K) → ((q : K) → ordered.contains R t q ≡ cond (is_at (R k) q) false (ordered.contains R s q)) → as_set {R = R} t ≡ sets.remove (as_set s) k
  remove-as_set exact s t k updates = sets.same_set total exact _ _ (λ q.
      contains-as_set t q ∙ updates q ∙ ap (λ b. cond b false (ordered.contains R s q)) ((eq_by_cmp_equiv total).symm k q) ∙ not_cond (is_at (R q) k) _
      ∙ sym (sets.contains-remove total (as_set s) k q ∙ ap (λ b. not (eq_by_cmp R q k) && b) (contains-as_set s q)))

-- ---- the map from each key to nothing

abbrev pub marked : {K : Type 0} → List K → List (K × Unit {0})
marked ks = map (λ k. (k, tt)) ks

-- The map from an ordered set's keys to nothing. Unlike those of a finite set its keys are known in their order.
abbrev pub as_keys : {K : Type 0} {R : K → K → Ordering} → BTreeSet K → FinMap R (Unit {0})
as_keys s = from_entries (marked s.keys)

abbrev mark : Bool → Option (Unit {0})
mark b = cond b (Some tt) None

is_some-mark : (b : Bool) → is_some (mark b) ≡ b
is_some-mark true = refl
is_some-mark false = refl

mark_or : (a b : Bool) → cond a (Some tt) (mark b) ≡ mark (a || b)
mark_or true b = refl
mark_or false b = refl

mark_more : (a b : Bool) → mark (cond a true b) ≡ cond a (Some tt) (mark b)
mark_more true b = refl
mark_more false b = refl

mark_less : (a b : Bool) → mark (cond a false b) ≡ cond a None (mark b)
mark_less true b = refl
mark_less false b = refl

marked_keys : {K : Type 0} (ks : List K) → keys_of (marked ks) ≡ ks
marked_keys [] = refl
marked_keys (k ∷ ks) = ap (λ l. k ∷ l) (marked_keys ks)

module _ {K : Type 0} {R : K → K → Ordering} (total : IsTotalOrder R) where
  find_marked : (ks : List K) (q : K) → find R q (marked ks) ≡ mark (list_any (eq_by_cmp R q) ks)
  find_marked [] q = refl
  find_marked (k ∷ ks) q = ap (cond (eq_by_cmp R q k) (Some tt)) (find_marked ks q) ∙ mark_or (eq_by_cmp R q k) _

  get-as_keys : (s : BTreeSet K) (q : K) → get (as_keys {R = R} s) q ≡ mark (ordered.contains R s q)
  get-as_keys s q = get-from_entries total (marked s.keys) q ∙ find_marked s.keys q

  pub contains-as_keys : (s : BTreeSet K) (q : K) → contains_key (as_keys {R = R} s) q ≡ ordered.contains R s q
  contains-as_keys s q = ap is_some (get-as_keys s q) ∙ is_some-mark _

  pub insert-as_keys : IsAntisymmetric R → (s t : BTreeSet K) (k : K) → ((q : K) → ordered.contains R t q ≡ cond (is_at (R k) q) true (ordered.contains R s q)) → as_keys {R = R} t ≡ insert (as_keys s) k tt
  insert-as_keys exact s t k updates = same_map total exact _ _ (λ q.
      get-as_keys t q ∙ ap mark (updates q) ∙ ap (λ b. mark (cond b true (ordered.contains R s q))) ((eq_by_cmp_equiv total).symm k q) ∙ mark_more (is_at (R q) k) _
      ∙ sym (get-insert total (as_keys s) k tt q ∙ ap (cond (is_at (R q) k) (Some tt)) (get-as_keys s q)))

  pub remove-as_keys : IsAntisymmetric R → (s t : BTreeSet K) (k : K) → ((q : K) → ordered.contains R t q ≡ cond (is_at (R k) q) false (ordered.contains R s q)) → as_keys {R = R} t ≡ remove (as_keys s) k
  remove-as_keys exact s t k updates = same_map total exact _ _ (λ q.
      get-as_keys t q ∙ ap mark (updates q) ∙ ap (λ b. mark (cond b false (ordered.contains R s q))) ((eq_by_cmp_equiv total).symm k q) ∙ mark_less (is_at (R q) k) _
      ∙ sym (get-remove total (as_keys s) k q ∙ ap (cond (is_at (R q) k) None) (get-as_keys s q)))

  -- the keys, ascending
  pub keys-as_keys : (s : BTreeSet K) → IsStrictlySortedBy R s.keys → keys (as_keys {R = R} s) ≡ s.keys
  keys-as_keys s h = ap keys_of (entries-from_entries total (marked s.keys) (subst (IsStrictlySortedBy R) (sym (marked_keys s.keys)) h)) ∙ marked_keys s.keys
