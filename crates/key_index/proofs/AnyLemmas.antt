-- What some entry of a map, or some item of a set, passes.
use Rattle.std.specs.Prelude.{◌≡◌, List, [], ◌∷◌, Bool, true, false, cond, ◌||◌, ◌&&◌, T, Some, None}
use Rattle.std.proofs.Common.{refl, sym, ◌∙◌, ap}
use mathlib.Core.Bool.{true≢false}
use Rattle.std.specs.declared.cmp.Ordering.{Ordering}
use Rattle.std.specs.declared.cmp.Ordering.TheVariants.{Less, Equal, Greater}
use Rattle.std.specs.Ordering.{eq_by_cmp, is_eq, is_lt}
use Rattle.std.specs.Cmp.{IsTotalOrder, Equal-is, tied_itself}
use Rattle.std.specs.List.{list_any}
use Rattle.std.specs.Option.{is_some, unwrap_or}
use Rattle.std.specs.FinMap.{FinMap, IsAntisymmetric, entries, entries_sorted, find, get, get-entries, get-retain_keys, is_sorted, retain_keys}
use Rattle.std.specs.FinMap.Entries.{below_all}
use Rattle.std.specs.FinSet as sets

-- ---- truth values

pub true_or_false : (a : Bool) → (a ≡ true → ⊥) → a ≡ false
true_or_false true h = absurd (h refl)
true_or_false false h = refl

pub not_both : (a : Bool) → a ≡ true → a ≡ false → ⊥
not_both a h g = true≢false (sym h ∙ g)

pub same_truth : (a b : Bool) → (a ≡ true → b ≡ true) → (b ≡ true → a ≡ true) → a ≡ b
same_truth true b h g = sym (h refl)
same_truth false true h g = g refl
same_truth false false h g = refl

or_true : (a : Bool) → (a || true) ≡ true
or_true true = refl
or_true false = refl

pub first_of_both : (a b : Bool) → T (a && b) → T a
first_of_both true b h = tt
first_of_both false b h = h

pub second_of_both : (a b : Bool) → T (a && b) → T b
second_of_both true b h = h
second_of_both false b h = absurd h

-- ---- lists

module _ {A : Type 0} (t : A → A → Bool) where
  witness : ((x : A) → t x x ≡ true) → (p : A → Bool) (xs : List A) → list_any p xs ≡ true → (x : A) × (p x ≡ true) × (list_any (t x) xs ≡ true)
  witness itself p [] h = absurd (true≢false (sym h))
  witness itself p (x ∷ xs) h = by (p x) refl h (witness itself p xs)
    where
      by : (b : Bool) → p x ≡ b → (b || list_any p xs) ≡ true → (list_any p xs ≡ true → (y : A) × (p y ≡ true) × (list_any (t y) xs ≡ true))
          → (y : A) × (p y ≡ true) × (list_any (t y) (x ∷ xs) ≡ true)
      by true e h rest = (x, e, ap (λ b. b || list_any (t x) xs) (itself x))
      by false e h rest = let w = rest h in (w.0, w.1, ap (λ b. t w.0 x || b) w.2 ∙ or_true (t w.0 x))

  passes : ((x y : A) → t x y ≡ true → x ≡ y) → (p : A → Bool) (x : A) (ys : List A) → list_any (t x) ys ≡ true → p x ≡ true → list_any p ys ≡ true
  passes exact p x [] h px = absurd (true≢false (sym h))
  passes exact p x (y ∷ ys) h px = by (t x y) refl h (λ found. passes exact p x ys found px)
    where
      by : (b : Bool) → t x y ≡ b → (b || list_any (t x) ys) ≡ true → (list_any (t x) ys ≡ true → list_any p ys ≡ true) → list_any p (y ∷ ys) ≡ true
      by true e h rest = ap (λ b. b || list_any p ys) (ap p (sym (exact x y e)) ∙ px)
      by false e h rest = ap (λ b. p y || b) (rest h) ∙ or_true (p y)

-- ---- maps

pub less_not_equal : (r : Ordering) → T (is_lt r) → is_eq r ≡ false
less_not_equal Less h = refl
less_not_equal Equal h = absurd h
less_not_equal Greater h = absurd h

pub some_is : {X : Type 0} (x y : X) → Some x ≡ Some y → x ≡ y
some_is x y h = ap (λ o. unwrap_or o x) h

pub none_not_some : {X : Type 0} (x : X) → None ≡ Some x → ⊥
none_not_some x h = true≢false (sym (ap is_some h))

module _ {K X : Type 0} {R : K → K → Ordering} (total : IsTotalOrder R) (exact : IsAntisymmetric R) where
  pub none_below : (k : K) (es : List (K × X)) → T (below_all R k es) → find R k es ≡ None
  none_below k [] h = refl
  none_below k (e ∷ es) h =
      ap (λ b. cond b (Some e.1) (find R k es)) (less_not_equal (R k e.0) (first_of_both _ _ h)) ∙ none_below k es (second_of_both _ _ h)

  entry_witness : (p : K × X → Bool) (es : List (K × X)) → T (is_sorted R es) → list_any p es ≡ true → (e : K × X) × (p e ≡ true) × (find R e.0 es ≡ Some e.1)
  entry_witness p [] s h = absurd (true≢false (sym h))
  entry_witness p (e ∷ es) s h = by (p e) refl h (entry_witness p es (second_of_both _ _ s))
    where
      other : (w : K × X) → find R w.0 es ≡ Some w.1 → (b : Bool) → eq_by_cmp R w.0 e.0 ≡ b → cond b (Some e.1) (find R w.0 es) ≡ Some w.1
      other w found true same =
          absurd (none_not_some w.1 (sym (none_below e.0 es (first_of_both _ _ s)) ∙ ap (λ k. find R k es) (sym (exact w.0 e.0 ((Equal-is (R w.0 e.0)).0 same))) ∙ found))
      other w found false same = found

      by : (b : Bool) → p e ≡ b → (b || list_any p es) ≡ true → (list_any p es ≡ true → (f : K × X) × (p f ≡ true) × (find R f.0 es ≡ Some f.1))
          → (f : K × X) × (p f ≡ true) × (find R f.0 (e ∷ es) ≡ Some f.1)
      by true is h rest = (e, is, ap (λ r. cond (is_eq r) (Some e.1) (find R e.0 es)) (tied_itself total e.0))
      by false is h rest = let w = rest h in (w.0, w.1, other w.0 w.2 (eq_by_cmp R w.0.0 e.0) refl)

  entry_passes : (p : K × X → Bool) (u : K) (o : X) (es : List (K × X)) → find R u es ≡ Some o → p (u, o) ≡ true → list_any p es ≡ true
  entry_passes p u o [] found h = absurd (none_not_some o found)
  entry_passes p u o (e ∷ es) found h = by (eq_by_cmp R u e.0) refl found (λ later. entry_passes p u o es later h)
    where
      by : (b : Bool) → eq_by_cmp R u e.0 ≡ b → cond b (Some e.1) (find R u es) ≡ Some o → (find R u es ≡ Some o → list_any p es ≡ true) → list_any p (e ∷ es) ≡ true
      by true same found rest =
          let key : u ≡ e.0 = exact u e.0 ((Equal-is (R u e.0)).0 same) in
          let value : e.1 ≡ o = some_is e.1 o found in
          ap (λ b. b || list_any p es) ((λ i. p (sym key i, value i)) ∙ h)
      by false same found rest = ap (λ b. p e || b) (rest found) ∙ or_true (p e)

  -- no entry passes, or each one fails
  pub each_fails : (m : FinMap R X) (p : K × X → Bool) → list_any p (entries m) ≡ false → (u : K) (o : X) → get m u ≡ Some o → p (u, o) ≡ false
  each_fails m p none u o found =
      true_or_false _ (λ h. not_both _ (entry_passes p u o (entries m) (sym (get-entries m u) ∙ found) h) none)

  pub none_passes : (m : FinMap R X) (p : K × X → Bool) → ((u : K) (o : X) → get m u ≡ Some o → p (u, o) ≡ false) → list_any p (entries m) ≡ false
  none_passes m p each = true_or_false _ (λ h.
      let w = entry_witness p (entries m) (entries_sorted m) h in
      not_both _ w.1 (each w.0.0 w.0.1 (get-entries m w.0.0 ∙ w.2)))

-- ---- keys that a test keeps

module _ {K : Type 0} {R : K → K → Ordering} (total : IsTotalOrder R) (exact : IsAntisymmetric R) where
  alike : (p : K → Bool) (q x : K) → R q x ≡ Equal → p x ≡ p q
  alike p q x h = ap p (sym (exact q x h))

  pub get-kept : {Y : Type 0} (m : FinMap R Y) (p : K → Bool) (q : K) → get (retain_keys m p) q ≡ cond (p q) (get m q) None
  get-kept m p q = get-retain_keys m p q (alike p q)

-- ---- sets

module _ {K : Type 0} {R : K → K → Ordering} (total : IsTotalOrder R) (exact : IsAntisymmetric R) where
  pub itself : (x : K) → eq_by_cmp R x x ≡ true
  itself x = ap is_eq (tied_itself total x)

  pub equal : (x y : K) → eq_by_cmp R x y ≡ true → x ≡ y
  equal x y h = exact x y ((Equal-is (R x y)).0 h)

  pub each_item_fails : (s : sets.FinSet R) (p : K → Bool) → list_any p (sets.items s) ≡ false → (k : K) → p k ≡ true → sets.contains s k ≡ false
  each_item_fails s p none k h =
      true_or_false _ (λ has. not_both _ (passes (eq_by_cmp R) equal p k (sets.items s) (sym (sets.contains-items s k) ∙ has) h) none)

  pub no_item_passes : (s : sets.FinSet R) (p : K → Bool) → ((k : K) → p k ≡ true → sets.contains s k ≡ false) → list_any p (sets.items s) ≡ false
  no_item_passes s p each = true_or_false _ (λ h.
      let w = witness (eq_by_cmp R) itself p (sets.items s) h in
      not_both _ (sets.contains-items s w.0 ∙ w.2) (each w.0 w.1))

  -- a test passes on an item of a list's set where it passes on an item of the list
  pub any_item : (p : K → Bool) (ks : List K) → list_any p (sets.items (sets.from_list {R = R} ks)) ≡ list_any p ks
  any_item p ks =
      let s = sets.from_list {R = R} ks in
      same_truth _ _
      (λ h. let w = witness (eq_by_cmp R) itself p (sets.items s) h in
      passes (eq_by_cmp R) equal p w.0 ks (sym (sets.contains-from_list total ks w.0) ∙ sets.contains-items s w.0 ∙ w.2) w.1)
      (λ h. let w = witness (eq_by_cmp R) itself p ks h in
      passes (eq_by_cmp R) equal p w.0 (sets.items s) (sym (sets.contains-items s w.0) ∙ sets.contains-from_list total ks w.0 ∙ w.2) w.1)
